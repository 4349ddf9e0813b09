-- The order that the first call leaves in the front of the local list is what the second call gives by.
use Rattle.numbers.proofs.Words.{ℕ, ◌<◌, arith, ◌≡◌, sym, ap, ap₂, subst, ◌∙◌, List, length, replicate, entry}
use Rattle.numbers.proofs.Front.{Front, front_of}
use Rattle.method_laws.specs.Columns.{by_key}
use Rattle.method_laws.specs.Giving.{sooner, in_order, taken, taken_from}
use Rattle.method_laws.proofs.Columns.{codes_long, order_by_keys}
use Rattle.method_steps.proofs.Laws.{noughts, order_below}
use Rattle.method_steps.proofs.ordered.give.Goals as goal

pub give-requires-clause-below : goal.give-requires-clause-below
give-requires-clause-below c =
    let a = c.args in
    let lots = a.lots.now in
    let order = c.in_order.new.order in
    let front : Front (length lots) noughts order = front_of (length lots) noughts order c.requires.0.few c.in_order.auto.order in (
      subst (λ (is : List ℕ). (k : ℕ) → k < length is → entry is k < length lots) (sym front.is)
          (order_below (sooner a.larger) (by_key a.columns.keys.now) lots order (length lots) c.in_order.ensures front.full),
      c.requires.0.code,
    )

pub returns-clause-given_after : goal.returns-clause-given_after
unfolding taken
returns-clause-given_after c = λ ss columns.
    let a = c.args in
    let lots = a.lots.now in
    let order = c.in_order.new.order in
    let front : Front (length lots) noughts order = front_of (length lots) noughts order c.requires.0.few c.in_order.auto.order in
    let long : length lots ≡ length ss = omega (arith, c.requires.0.codes_long, codes_long ss columns.codes_are) in
    c.give.ensures.given_after ss columns.codes_are
    ∙ ap₂ (λ (is done : List ℕ). taken_from ss is lots a.caps.now a.need done)
    (front.is
    ∙ c.in_order.ensures
    ∙ ap (in_order (sooner a.larger) (by_key a.columns.keys.now) lots) long
    ∙ order_by_keys ss a.columns.codes.now a.columns.positions.now a.columns.keys.now columns (sooner a.larger) lots)
    (c.requires.1 ∙ ap (λ (n : ℕ). replicate n 0) long)
