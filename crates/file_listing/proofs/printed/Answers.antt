use Rattle.numbers.proofs.Words.{◌≡◌, arith, sym, ap, ◌∙◌, le_trans, refl, subst}
use Rattle.std.specs.Prelude.{Ok, Err}
use Rattle.rules.specs.Answers.{file_answer_in}
use Rattle.rules.specs.Book.{no_book}
use Rattle.rules.specs.File.{file_answer, read_whole}
use Rattle.rules.specs.Lent.{lent_of}
use Rattle.rules.specs.Listing.{listing_bytes, noughts}
use Rattle.listing.specs.Columns.{refused_row}
use Rattle.listing.proofs.Laws.Most.{refused_most, lines_asked, listing_most_lem}
use Rattle.file_opening.proofs.Laws.{refuses, refusal_few}
use Rattle.file_listing.proofs.Laws.{Listable, Places, said, prints_refusal, listable, roomy, prints_accepted}
use Rattle.file_listing.proofs.printed.Goals as goal
use Rattle.file_listing.proofs.printed.Goals.{In-Ok}

-- what an accepted read answers, and that a listing can be made of it
module _ (c : In-Ok) where
  is : file_answer_in no_book (Ok c.in-Ok.read) ≡ file_answer (read_whole c.args.file.now noughts)
  unfolding noughts
  is = ap (file_answer_in no_book) (sym c.in-Ok.is) ∙ c.read.ensures.value

  limits : Listable (file_answer_in no_book (Ok c.in-Ok.read)) (lent_of c.read.new.lent)
  unfolding noughts
  limits = listable c.args.file.now is {after = lent_of c.read.new.lent} c.read.ensures.sums_after refl

  places : Places (lent_of c.read.new.lent)
  unfolding noughts
  places = roomy c.args.file.now is {after = lent_of c.read.new.lent} c.read.ensures.sums_after refl

pub accepted-length-requires : goal.accepted-length-requires
accepted-length-requires c =
    let l = subst (Listable (file_answer_in no_book (Ok c.in-Ok.read))) (sym c.of_read-lists.ensures) (limits (goal.at.accepted-length-requires c).In-Ok) in
    let room = subst Places (sym c.of_read-lists.ensures) (places (goal.at.accepted-length-requires c).In-Ok) in
    record {
      held_bound = (l.held, l.lot);
      kept_in_bounds = (le_trans l.few room.0, le_trans l.few room.1, le_trans l.few room.2, le_trans l.few room.3);
      held_in_bounds = (le_trans l.held room.4, le_trans l.held room.5, le_trans l.held room.6, le_trans l.held room.7);
      by_index = lines_asked l;
      sums_in_bounds = omega (arith, listing_most_lem l);
    }

pub returns-in-Ok : goal.returns-in-Ok
unfolding noughts
returns-in-Ok c =
    let told = said
    (prints_accepted c.args.file.now (is (goal.at.returns-in-Ok c).In-Ok) {after = lent_of c.read.new.lent} c.read.ensures.sums_after refl
    ∙ ap (listing_bytes c.in-Ok.read.book c.in-Ok.read.kept) (sym c.of_read-lists.ensures))
    (c.accepted-length.ensures.value, c.accepted-length.ensures.out_after) in
    record { length_value = told.0; bytes_value = told.1 }

pub refused-length-requires : goal.refused-length-requires
refused-length-requires c = le_trans (refused_most _ _ (omega (arith, c.number_of.ensures, refusal_few c.in-Err.e.refusal)) (omega (arith, c.read.type_inv))) (omega arith)

pub returns-in-Err : goal.returns-in-Err
unfolding noughts
returns-in-Err c =
    let told = said
    (prints_refusal c.args.file.now (ap (file_answer_in no_book) (sym c.in-Err.is) ∙ c.read.ensures.value) (refuses c.in-Err.e.refusal) ∙ ap (λ n. refused_row n c.in-Err.e.place) (sym c.number_of.ensures))
    (c.refused-length.ensures.value, c.refused-length.ensures.out_after) in
    record { length_value = told.0; bytes_value = told.1 }
