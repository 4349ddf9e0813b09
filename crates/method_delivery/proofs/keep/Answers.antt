-- Steps 1 to 3, one after the other; two local lists on the way.
use Rattle.numbers.proofs.Words.{ℕ, ◌≤◌, arith, ◌≡◌, sym, ap, subst, ◌∙◌, true, List, length, replicate, length-take-le, listed}
use Rattle.numbers.proofs.Front.{noughts_front, Front, front_of}
use Rattle.rules.specs.declared.book.{Book.Book}
use Rattle.rules.specs.Book.{good, held_sections, filed_notices}
use Rattle.rules.specs.Expiry.Failing.{noticed}
use Rattle.book_laws.proofs.Good.{facts}
use Rattle.method_laws.specs.Columns.{Small}
use Rattle.method_columns.proofs.Laws.{marks_fail, failing_within}
use Rattle.method_delivery.proofs.Book.{columns, held_columns, noticed_columns}
use Rattle.method_delivery.proofs.keep.Goals as goal

few : (b : Book) → good b ≡ true → (kept : List ℕ) → length kept ≡ b.held → length kept ≤ 128
few b h kept e = omega (arith, e, (facts b h).held)

pub slice_bounds-noticed-end : goal.slice_bounds-noticed-end
slice_bounds-noticed-end c = few _ c.requires.0 _ c.requires.1

pub slice_bounds-noticed-end-2 : goal.slice_bounds-noticed-end-2
slice_bounds-noticed-end-2 c = sym (length-take-le _ (replicate 128 0) (few _ c.requires.0 _ c.requires.1))

pub noticed-requires-clause-sellers_len_bound : goal.noticed-requires-clause-sellers_len_bound
noticed-requires-clause-sellers_len_bound c =
    let few = few _ c.requires.0 _ c.requires.1 in
    let n = length-take-le {A = ℕ} _ (replicate 128 0) few in
    let columns = noticed_columns (facts _ c.requires.0) c.requires.2 _ (n ∙ c.requires.1) in
    (columns.few, columns.long, noughts_front _ 128 few ∙ ap (λ (m : ℕ). replicate m 0) (sym n))

pub noticed-requires-clause-below : goal.noticed-requires-clause-below
noticed-requires-clause-below c =
    let n = length-take-le {A = ℕ} _ (replicate 128 0) (few _ c.requires.0 _ c.requires.1) in
    let columns = noticed_columns (facts _ c.requires.0) c.requires.2 _ (n ∙ c.requires.1) in
    (columns.seller, columns.small)

pub slice_bounds-noticed-end-3 : goal.slice_bounds-noticed-end-3
slice_bounds-noticed-end-3 c = (front_of _ (replicate 128 0) c.noticed.new.sums (few _ c.requires.0 _ c.requires.1) c.noticed.auto.sums).fits

pub slice_bounds-failing-end : goal.slice_bounds-failing-end
slice_bounds-failing-end c = sym (front_of _ (replicate 128 0) c.noticed.new.sums (few _ c.requires.0 _ c.requires.1) c.noticed.auto.sums).long

pub slice_bounds-failed-end : goal.slice_bounds-failed-end
slice_bounds-failed-end c = few _ c.requires.0 _ c.requires.1

pub slice_bounds-failing-end-2 : goal.slice_bounds-failing-end-2
slice_bounds-failing-end-2 c = sym (length-take-le _ (replicate 128 0) (few _ c.requires.0 _ c.requires.1))

pub failing-requires : goal.failing-requires
failing-requires c =
    let b = c.args.b in
    let few = few _ c.requires.0 _ c.requires.1 in
    let front : Front (length c.args.kept.now) (replicate 128 0) c.noticed.new.sums = front_of _ _ _ few c.noticed.auto.sums in
    -- the lots of each section's notices
    let noticed_is : c.noticed.new.sums ≡ listed b.held (noticed (filed_notices b)) =
    c.noticed.ensures (filed_notices b) c.requires.2.filed.sellers_are c.requires.2.filed.lots_are
    ∙ ap (λ (n : ℕ). listed n (noticed (filed_notices b))) (length-take-le _ (replicate 128 0) few ∙ c.requires.1) in
    (c.requires.0, length-take-le _ (replicate 128 0) few ∙ c.requires.1, front.is ∙ noticed_is)

pub slice_bounds-failed-end-2 : goal.slice_bounds-failed-end-2
slice_bounds-failed-end-2 c = (front_of _ (replicate 128 0) c.failing.new.lots (few _ c.requires.0 _ c.requires.1) c.failing.auto.lots).fits

pub slice_bounds-remaining-end : goal.slice_bounds-remaining-end
slice_bounds-remaining-end c = sym (front_of _ (replicate 128 0) c.failing.new.lots (few _ c.requires.0 _ c.requires.1) c.failing.auto.lots).long

-- the lots of the sections that fail
pub remaining-requires : goal.remaining-requires
remaining-requires c =
    let book = facts _ c.requires.0 in
    let front : Front (length c.args.kept.now) (replicate 128 0) c.failing.new.lots = front_of _ _ _ (few _ c.requires.0 _ c.requires.1) c.failing.auto.lots in (
      held_columns book c.requires.2 _ c.requires.1,
      front.long,
      subst Small (sym (front.is ∙ c.failing.ensures ∙ marks_fail _ book)) (failing_within c.args.b book),
    )

pub returns : goal.returns
returns c =
    let b = c.args.b in
    let book = facts _ c.requires.0 in
    let front : Front (length c.args.kept.now) (replicate 128 0) c.failing.new.lots = front_of _ _ _ (few _ c.requires.0 _ c.requires.1) c.failing.auto.lots in
    (c.remaining.ensures.kept_after (held_sections b) (filed_notices b) (columns book c.requires.2) (front.is ∙ c.failing.ensures ∙ marks_fail _ book), c.remaining.ensures.small)
