-- Two local lists, one after the other.
use Rattle.numbers.proofs.Words.{ℕ, arith, ◌≡◌, sym, ap, subst, ◌∙◌, take, length, length-take-le, listed, replicate}
use Rattle.numbers.proofs.Front.{noughts_front, Front, front_of}
use Rattle.rules.specs.Book.{filed_notices}
use Rattle.rules.specs.Expiry.Failing.{noticed}
use Rattle.book_laws.proofs.Good.{Good, facts}
use Rattle.book_laws.proofs.Held.{filed_length}
use Rattle.method_laws.specs.Columns.{Small}
use Rattle.method_laws.proofs.Columns.{sellers_long, lots_long}
use Rattle.method_columns.proofs.Laws.{marks_fail, failing_within, seller_within, lots_within}
use Rattle.method_steps.proofs.Laws.{noughts}
use Rattle.method_account.proofs.failing.who_fails.Goals as goal
use Rattle.method_account.proofs.failing.who_fails.Goals.{After-failing, After-noticed, Start}

module _ (c : Start) where
  book : Good c.args.b
  book = facts _ c.requires.0

  long : length (take c.args.b.held noughts) ≡ c.args.b.held
  long = length-take-le _ noughts book.held

-- the lots of each section's notices
module _ (c : After-noticed) where
  noticed_front : Front c.args.b.held noughts c.noticed.new.sums
  noticed_front = front_of _ _ _ (facts _ c.requires.0).held c.noticed.auto.sums

  noticed_is : c.noticed.new.sums ≡ listed c.args.b.held (noticed (filed_notices c.args.b))
  noticed_is =
      let ns = filed_notices c.args.b in
      c.noticed.ensures ns c.requires.1 c.requires.2 ∙ ap (λ (n : ℕ). listed n (noticed ns)) (length-take-le _ noughts (facts _ c.requires.0).held)

-- and of the sections that fail
failed_front : (c : After-failing) → Front c.args.b.held noughts c.failing.new.lots
failed_front c = front_of _ _ _ (facts _ c.requires.0).held c.failing.auto.lots

pub slice_bounds-noticed-end : goal.slice_bounds-noticed-end
slice_bounds-noticed-end c = (facts _ c.requires.0).held

pub slice_bounds-noticed-end-2 : goal.slice_bounds-noticed-end-2
slice_bounds-noticed-end-2 c = sym (long (goal.at.slice_bounds-noticed-end-2 c).Start)

pub noticed-requires : goal.noticed-requires
noticed-requires c =
    let b = c.args.b in
    let ns = filed_notices b in
    let start = (goal.at.noticed-requires c).Start in
    let filed = filed_length b (book start).notice_places_lem (book start).filed in record {
      sellers_len_bound = (
        omega (arith, filed, (book start).filed, sellers_long ns c.requires.1),
        lots_long ns c.requires.2 ∙ sym (sellers_long ns c.requires.1),
        noughts_front _ 128 (book start).held ∙ ap (λ (m : ℕ). replicate m 0) (sym (long start)),
      );
      below = (λ k h. omega (arith, long start, seller_within b (book start) c.requires.1 k h), lots_within b (book start) c.requires.2);
    }

pub slice_bounds-noticed-end-3 : goal.slice_bounds-noticed-end-3
slice_bounds-noticed-end-3 c = (noticed_front (goal.at.slice_bounds-noticed-end-3 c).After-noticed).fits

pub slice_bounds-failing-end : goal.slice_bounds-failing-end
slice_bounds-failing-end c = sym (noticed_front (goal.at.slice_bounds-failing-end c).After-noticed).long

pub slice_bounds-failed-end : goal.slice_bounds-failed-end
slice_bounds-failed-end c = (facts _ c.requires.0).held

pub slice_bounds-failing-end-2 : goal.slice_bounds-failing-end-2
slice_bounds-failing-end-2 c = sym (long (goal.at.slice_bounds-failing-end-2 c).Start)

pub failing-requires : goal.failing-requires
failing-requires c =
    let at = (goal.at.failing-requires c).After-noticed in
    (c.requires.0, long (goal.at.failing-requires c).Start, (noticed_front at).is ∙ noticed_is at)

pub returns : goal.returns
returns c =
    let at = (goal.at.returns c).After-noticed in
    let b = c.args.b in
    let failed_are = (failed_front (goal.at.returns c).After-failing).is ∙ c.failing.ensures ∙ marks_fail b (facts _ c.requires.0) in
    (record { noticed_are = (noticed_front at).is ∙ noticed_is at; failed_are = failed_are }, subst Small (sym failed_are) (failing_within b (facts _ c.requires.0)))
