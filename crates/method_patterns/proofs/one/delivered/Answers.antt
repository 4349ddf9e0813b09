-- What the method leaves each section and what lapses of it stand in two local lists.
use Rattle.numbers.proofs.Words.{ℕ, ◌-◌, ◌≤◌, ◌<◌, arith, ◌≡◌, sym, ap, ap₂, subst, ◌∙◌, List, ◌++◌, take, drop, length, replicate, length-take-le, get_or-take, entry}
use Rattle.rules.specs.declared.book.{Book.Book}
use Rattle.numbers.proofs.Front.{noughts_front, Front, front_of}
use Rattle.numbers.proofs.Ranges.{less_at}
use Rattle.rules.specs.Book.{held_sections, filed_notices}
use Rattle.rules.specs.Expiry.Call.{lapsed, delivered}
use Rattle.rules.specs.Failures.{delivered_in}
use Rattle.book_laws.proofs.Good.{Good, facts}
use Rattle.method_laws.specs.Columns.{Small}
use Rattle.method_columns.proofs.Laws.{failing_within}
use Rattle.method_passes.specs.Formed.{lines_in}
use Rattle.method_delivery.specs.Lent.{lines_for, remaining_of}
use Rattle.method_delivery.proofs.Book.{columns, held_columns, expiring, sections_held}
use Rattle.method_delivery.proofs.Taken
use Rattle.method_patterns.specs.Patterns.{Stands}
use Rattle.method_patterns.proofs.Laws.Marked.{many_failing}
use Rattle.method_patterns.proofs.one.delivered.Goals as goal
use Rattle.method_patterns.proofs.one.delivered.Goals.{After-form-formed, After-lapsed, After-remaining, Start}

-- an entry of a list that stands in the front of a longer one
entry_of : {n i : ℕ} (xs : List ℕ) {ys : List ℕ} → take n xs ≡ ys → i < n → entry xs i ≡ entry ys i
entry_of {n} {i} xs is h = sym (get_or-take n xs i 0 h) ∙ ap (λ (l : List ℕ). entry l i) is

module _ (c : Start) where
  good_book : Good c.requires.0.book
  good_book = facts _ c.requires.0.is.good_book

  held : length (c.args.failed.now) ≡ c.requires.0.book.held
  held = many_failing c.requires.0.is

  few : length (c.args.failed.now) ≤ 128
  few = omega (arith, held, good_book.held)

module _ (c : After-remaining) where
  front : Front (length (c.args.failed.now)) (replicate 128 0) c.remaining.new.kept
  front = front_of _ _ _ (omega (arith, many_failing c.requires.0.is, (facts _ c.requires.0.is.good_book).held)) c.remaining.auto.kept

  abbrev kept : List ℕ
  kept = take (length (c.args.failed.now)) (c.remaining.new.kept ++ drop (length (c.args.failed.now)) (replicate 128 0))

  -- of any book that stands behind the columns it is what the method leaves
  kept_is : (b : Book) → Stands b (c.args.persons.now) (c.args.columns.codes.now) (c.args.columns.positions.now) (c.args.columns.keys.now) (c.args.notices.sellers.now) (c.args.notices.stands.now) (c.args.notices.lots.now) (c.args.failed.now) → kept ≡ remaining_of b
  kept_is b is = front.is ∙ c.remaining.ensures.kept_after (held_sections b) (filed_notices b) (columns (facts b is.good_book) is.columns) is.failed_are

  kept_small : Small kept
  kept_small = subst Small (sym front.is) c.remaining.ensures.small

module _ (c : After-form-formed) where
  -- and the lines are those of its expiry
  lines_are : (b : Book) → Stands b (c.args.persons.now) (c.args.columns.codes.now) (c.args.columns.positions.now) (c.args.columns.keys.now) (c.args.notices.sellers.now) (c.args.notices.stands.now) (c.args.notices.lots.now) (c.args.failed.now)
      → take (length (c.args.failed.now)) (c.remaining.new.kept ++ drop (length (c.args.failed.now)) (replicate 128 0)) ≡ remaining_of b
      → lines_in c.form-formed.result.register ≡ lines_for b
  lines_are b is left = c.form-formed.ensures.register_value _ _ (record { columns = columns (facts b is.good_book) is.columns; filed = is.columns.filed; kept_is = left })

module _ (c : After-lapsed) where
  gone_front : Front (length (c.args.failed.now)) (replicate 128 0) c.lapsed.new.sums
  gone_front = front_of _ _ _ (omega (arith, many_failing c.requires.0.is, (facts _ c.requires.0.is.good_book).held)) c.lapsed.auto.sums

  -- what lapses of the section
  gone_at : (b : Book) → Stands b (c.args.persons.now) (c.args.columns.codes.now) (c.args.columns.positions.now) (c.args.columns.keys.now) (c.args.notices.sellers.now) (c.args.notices.stands.now) (c.args.notices.lots.now) (c.args.failed.now)
      → lines_in c.form-formed.result.register ≡ lines_for b
      → entry (c.lapsed.new.sums ++ drop (length (c.args.failed.now)) (replicate 128 0)) c.args.asked ≡ entry (lapsed (held_sections b) (filed_notices b)) c.args.asked
  gone_at b is formed = entry_of _ (gone_front.is ∙ c.lapsed.ensures ∙ Taken.lapsed_is (facts b is.good_book) is.persons_are c.form-formed.result.register formed) c.requires.1

pub slice_bounds-kept-end : goal.slice_bounds-kept-end
slice_bounds-kept-end c = few (goal.at.slice_bounds-kept-end c).Start

pub slice_bounds-remaining-end : goal.slice_bounds-remaining-end
slice_bounds-remaining-end c = sym (length-take-le _ (replicate 128 0) (few (goal.at.slice_bounds-remaining-end c).Start))

pub remaining-requires : goal.remaining-requires
remaining-requires c =
    let start = (goal.at.remaining-requires c).Start in
    let long = length-take-le {A = ℕ} _ (replicate 128 0) (few start) in
    let is = c.requires.0.is in
    (held_columns (good_book start) is.columns _ (long ∙ held start), sym long, subst Small (sym is.failed_are) (failing_within c.requires.0.book (good_book start)))

pub slice_bounds-kept-end-2 : goal.slice_bounds-kept-end-2
slice_bounds-kept-end-2 c = (front (goal.at.slice_bounds-kept-end-2 c).After-remaining).fits

pub slice_bounds-form-end : goal.slice_bounds-form-end
slice_bounds-form-end c = sym (front (goal.at.slice_bounds-form-end c).After-remaining).long

pub form-formed-requires : goal.form-formed-requires
form-formed-requires c =
    let start = (goal.at.form-formed-requires c).Start in
    let at = (goal.at.form-formed-requires c).After-remaining in
    let is = c.requires.0.is in
    expiring (good_book start) is.columns ((front at).long ∙ held start) (kept_is at c.requires.0.book is) (kept_small at)

pub slice_bounds-gone-end : goal.slice_bounds-gone-end
slice_bounds-gone-end c = few (goal.at.slice_bounds-gone-end c).Start

pub slice_bounds-lapsed-end : goal.slice_bounds-lapsed-end
slice_bounds-lapsed-end c = sym (length-take-le _ (replicate 128 0) (few (goal.at.slice_bounds-lapsed-end c).Start))

pub lapsed-requires : goal.lapsed-requires
lapsed-requires c =
    let start = (goal.at.lapsed-requires c).Start in
    let b = c.requires.0.book in
    let is = c.requires.0.is in
    let good = good_book start in
    let left = kept_is (goal.at.lapsed-requires c).After-remaining b is in
    (Taken.known good is.persons_are _ (lines_are (goal.at.lapsed-requires c).After-form-formed b is left), noughts_front _ 128 (few start) ∙ ap (λ (n : ℕ). replicate n 0) (held start ∙ sym (Taken.participants_long good is.persons_are ∙ sections_held good)))

pub bounds-kept-asked : goal.bounds-kept-asked
bounds-kept-asked c = omega (arith, c.requires.1, few (goal.at.bounds-kept-asked c).Start)

pub bounds-gone-asked : goal.bounds-gone-asked
bounds-gone-asked c = omega (arith, c.requires.1, few (goal.at.bounds-gone-asked c).Start)

pub not_lapsed-requires : goal.not_lapsed-requires
not_lapsed-requires c =
    let start = (goal.at.not_lapsed-requires c).Start in
    let b = c.requires.0.book in
    let is = c.requires.0.is in
    let good = good_book start in
    let left = kept_is (goal.at.not_lapsed-requires c).After-remaining b is in
    let gone = gone_at (goal.at.not_lapsed-requires c).After-lapsed b is (lines_are (goal.at.not_lapsed-requires c).After-form-formed b is left) in
    omega (arith, entry_of _ left c.requires.1, gone, Taken.lapsed_below good c.args.asked (omega (arith, c.requires.1, held start, sections_held good)))

pub returns : goal.returns
unfolding delivered_in delivered
returns c = λ b is.
    let left = kept_is (goal.at.returns c).After-remaining b is in
    let gone = gone_at (goal.at.returns c).After-lapsed b is (lines_are (goal.at.returns c).After-form-formed b is left) in
    c.not_lapsed.ensures ∙ ap₂ ◌-◌ (entry_of _ left c.requires.1) gone ∙ sym (less_at (remaining_of b) (lapsed (held_sections b) (filed_notices b)) c.args.asked)
