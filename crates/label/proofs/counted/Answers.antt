use Rattle.numbers.proofs.Words.{◌≡◌, ◌≤◌, sym, ap, ◌∙◌, le_trans, refl, length, length-take-le}
use Rattle.std.specs.Prelude.{Ok}
use Rattle.rules.specs.Answers.{LabelAnswer, file_answer_in}
use Rattle.rules.specs.Book.{no_book}
use Rattle.rules.specs.File.{file_answer, read_whole}
use Rattle.rules.specs.Lent.{lent_of}
use Rattle.rules.specs.Listing.{noughts}
use Rattle.listing.specs.Columns.{refused_row}
use Rattle.file_opening.proofs.Laws.{refuses}
use Rattle.file_listing.proofs.Laws.{Places, roomy, prints_refusal}
use Rattle.label.proofs.Laws.Shown.{few_lines, label_is, label_bytes}
use Rattle.label.proofs.counted.Goals as goal
use Rattle.label.proofs.counted.Goals.{In-Ok}

-- what an accepted read answers, and the places of the lists that it hands out
module _ (c : In-Ok) where
  is : file_answer_in no_book (Ok c.in-Ok.read) ≡ file_answer (read_whole c.args.file.now noughts)
  unfolding noughts
  is = ap (file_answer_in no_book) (sym c.in-Ok.is) ∙ c.read.ensures.value

  few : c.in-Ok.read.kept ≤ 382
  unfolding noughts
  few = few_lines c.args.file.now is refl {after = lent_of c.read.new.lent} c.read.ensures.sums_after

  places : Places (lent_of c.read.new.lent)
  unfolding noughts
  places = roomy c.args.file.now is {after = lent_of c.read.new.lent} c.read.ensures.sums_after refl

pub returns-in-Err : goal.returns-in-Err
unfolding noughts
returns-in-Err c =
    c.refused.ensures
    ∙ ap (λ n. length (refused_row n c.in-Err.e.place)) c.number_of.ensures
    ∙ ap length (sym (prints_refusal c.args.file.now (ap (file_answer_in no_book) (sym c.in-Err.is) ∙ c.read.ensures.value) (refuses c.in-Err.e.refusal)))

pub slice_bounds-cut-end : goal.slice_bounds-cut-end
slice_bounds-cut-end c = let at = (goal.at.slice_bounds-cut-end c).In-Ok in sym (length-take-le _ _ (le_trans (few at) (places at).0))

pub slice_bounds-cut-end-2 : goal.slice_bounds-cut-end-2
slice_bounds-cut-end-2 c = let at = (goal.at.slice_bounds-cut-end-2 c).In-Ok in sym (length-take-le _ _ (le_trans (few at) (places at).1))

pub slice_bounds-cut-end-3 : goal.slice_bounds-cut-end-3
slice_bounds-cut-end-3 c = let at = (goal.at.slice_bounds-cut-end-3 c).In-Ok in sym (length-take-le _ _ (le_trans (few at) (places at).2))

pub slice_bounds-cut-end-4 : goal.slice_bounds-cut-end-4
slice_bounds-cut-end-4 c = let at = (goal.at.slice_bounds-cut-end-4 c).In-Ok in sym (length-take-le _ _ (le_trans (few at) (places at).3))

pub returns : goal.returns
unfolding noughts
returns c =
    c.unwrap_or.ensures
    ∙ label_bytes c.listing_length.result
    ∙ ap (λ (a : LabelAnswer). a.bytes) (c.listing_length.ensures ∙ label_is c.args.file.now (is (goal.at.returns c).In-Ok) refl {after = lent_of c.read.new.lent} c.read.ensures.sums_after)
