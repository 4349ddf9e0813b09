use Rattle.numbers.proofs.Words.{arith}
use Rattle.numbers.proofs.Filled.{filled_none, filled_next}
use Rattle.method_register.proofs.chosen.lots_in_code.Goals as goal

pub loop-i-init : goal.loop-i-init
loop-i-init c = filled_none _ c.args.out.now

pub loop-i-preserved : goal.loop-i-preserved
loop-i-preserved c = filled_next c.loop-i.invariant (omega arith) c.kept_if.result c.kept_if.ensures
