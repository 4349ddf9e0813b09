use Rattle.numbers.proofs.Words.{arith}
use Rattle.numbers.proofs.Filled.{filled_none, filled_next}
use Rattle.method_register.proofs.chosen.drawn_in_code.Goals as goal

pub loop-k-init : goal.loop-k-init
loop-k-init c = filled_none _ c.args.out.now

pub loop-k-preserved : goal.loop-k-preserved
loop-k-preserved c = filled_next c.loop-k.invariant (omega arith) c.kept_if.result c.kept_if.ensures
