use Rattle.numbers.proofs.Words.{ℕ, arith, refl, ap, ◌∙◌, List, length, over}
use Rattle.numbers.proofs.Filled.{filled_none, filled_next, filled_over}
use Rattle.numbers.proofs.Ranges.{listed_entries}
use Rattle.method_delivery.proofs.written.small_lots.Goals as goal

pub loop-i-init : goal.loop-i-init
loop-i-init c = filled_none _ _

pub loop-i-preserved : goal.loop-i-preserved
loop-i-preserved c = filled_next c.loop-i.invariant (omega (arith, c.requires.0)) _ refl

pub returns : goal.returns
returns c = filled_over c.loop-i.invariant (length c.args.from.now) (omega arith) ∙ ap (λ (lots : List ℕ). over lots c.args.to.now) (listed_entries c.args.from.now 0)
