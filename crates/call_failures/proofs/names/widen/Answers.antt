use Rattle.numbers.proofs.Words.{arith, refl, ◌∙◌, length}
use Rattle.numbers.proofs.Filled.{filled_none, filled_next, filled_end}
use Rattle.numbers.proofs.Ranges.{listed_entries}
use Rattle.call_failures.proofs.names.widen.Goals as goal

pub loop-i-init : goal.loop-i-init
loop-i-init c = filled_none _ _

pub loop-i-preserved : goal.loop-i-preserved
loop-i-preserved c = filled_next c.loop-i.invariant (omega (arith, c.requires)) _ refl

pub returns : goal.returns
returns c =
    let named = c.args.named.now in
    filled_end c.loop-i.invariant (omega (arith, c.requires)) (length named) c.requires ∙ listed_entries named 0
