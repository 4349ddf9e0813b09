-- What fails is copied into a local list, and the sections named are marked there.
use Rattle.numbers.proofs.Words.{ℕ, ◌≤◌, arith, ◌≡◌, sym, ap, subst, ◌∙◌, List, ◌++◌, take, drop, length, replicate, length-take-le}
use Rattle.rules.specs.declared.book.{Book.Book}
use Rattle.numbers.proofs.Front.{Front, front_of}
use Rattle.book_laws.proofs.Good.{facts}
use Rattle.method_patterns.specs.Patterns.{book_under, fails_under, Stands, Marks}
use Rattle.method_patterns.proofs.Laws.Marked.{many_failing, own_long, still_long, under_stands}
use Rattle.method_patterns.proofs.one.delivered_under.Goals as goal
use Rattle.method_patterns.proofs.one.delivered_under.Goals.{After-copy_from_slice, After-mark}

-- what fails stands in the front of the local list
module _ (c : After-copy_from_slice) where
  few : length (c.args.marked.fails.now) ≤ 128
  few = omega (arith, many_failing c.requires.0.is, (facts _ c.requires.0.is.good_book).held)

  front : Front (length (c.args.marked.fails.now)) (replicate 128 0) c.copy_from_slice.new.self
  front = front_of _ _ _ few c.copy_from_slice.auto.self

module _ (c : After-mark) (copied : Front (length (c.args.marked.fails.now)) (replicate 128 0) c.copy_from_slice.new.self) where
  marked_front : Front (length (c.args.marked.fails.now)) (c.copy_from_slice.new.self ++ drop (length (c.args.marked.fails.now)) (replicate 128 0)) c.mark.new.failed
  marked_front = front_of _ _ _ copied.fits c.mark.auto.failed

  -- what fails under the pattern
  failed_is : c.mark.new.failed ≡ fails_under (c.args.marked.own.now) (c.args.marked.still.now) (c.args.marked.fails.now) (c.args.marked.named.now) c.args.pattern
  failed_is = c.mark.ensures ∙ ap (λ (l : List ℕ). fails_under (c.args.marked.own.now) (c.args.marked.still.now) l (c.args.marked.named.now) c.args.pattern) (copied.is ∙ c.copy_from_slice.ensures.after)

  -- the columns stand behind the book under the pattern
  under : (b : Book) → Stands b (c.args.persons.now) (c.args.columns.codes.now) (c.args.columns.positions.now) (c.args.columns.keys.now) (c.args.notices.sellers.now) (c.args.notices.stands.now) (c.args.notices.lots.now) (c.args.marked.fails.now)
      → Marks b (c.args.marked.fails.now) (c.args.marked.own.now) (c.args.marked.still.now) (c.args.marked.named.now)
      → Stands (book_under b (c.args.marked.named.now) c.args.pattern) (c.args.persons.now) (c.args.columns.codes.now) (c.args.columns.positions.now) (c.args.columns.keys.now) (c.args.notices.sellers.now) (c.args.notices.stands.now) (c.args.notices.lots.now) (take (length (c.args.marked.fails.now)) (c.mark.new.failed ++ drop (length (c.args.marked.fails.now)) (c.copy_from_slice.new.self ++ drop (length (c.args.marked.fails.now)) (replicate 128 0))))
  under b is marks =
      let a = c.args in
      subst (λ (l : List ℕ). Stands (book_under b (a.marked.named.now) a.pattern) (a.persons.now) (a.columns.codes.now) (a.columns.positions.now) (a.columns.keys.now) (a.notices.sellers.now) (a.notices.stands.now) (a.notices.lots.now) l)
      (sym (marked_front.is ∙ failed_is))
      (under_stands b (a.marked.named.now) a.pattern is marks)

pub slice_bounds-failed-end : goal.slice_bounds-failed-end
slice_bounds-failed-end c = omega (arith, many_failing c.requires.0.is, (facts _ c.requires.0.is.good_book).held)

pub slice_bounds-copy_from_slice-end : goal.slice_bounds-copy_from_slice-end
slice_bounds-copy_from_slice-end c = sym (length-take-le _ (replicate 128 0) (omega (arith, many_failing c.requires.0.is, (facts _ c.requires.0.is.good_book).held)))

pub copy_from_slice-requires : goal.copy_from_slice-requires
copy_from_slice-requires c = length-take-le _ (replicate 128 0) (omega (arith, many_failing c.requires.0.is, (facts _ c.requires.0.is.good_book).held))

pub mark-requires : goal.mark-requires
mark-requires c =
    let named = c.requires.0 in
    let long = (front (goal.at.mark-requires c).After-copy_from_slice).long in
    (own_long named.is named.marks ∙ sym long, still_long named.is named.marks ∙ sym long, λ k h. omega (arith, named.marks.known k h, long))

pub delivered-requires : goal.delivered-requires
delivered-requires c =
    let named = c.requires.0 in
    let copied = front (goal.at.delivered-requires c).After-copy_from_slice in
    let at = (goal.at.delivered-requires c).After-mark in
    (record { book = _; is = under at copied named.book named.is named.marks }, omega (arith, c.requires.1, (marked_front at copied).long))

pub returns : goal.returns
returns c = λ b is marks. c.delivered.ensures _ (under (goal.at.returns c).After-mark (front (goal.at.returns c).After-copy_from_slice) b is marks)
