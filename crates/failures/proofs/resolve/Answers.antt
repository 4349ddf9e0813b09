use Rattle.numbers.proofs.Words.{arith, rules}
use Rattle.failures.proofs.Laws.Resolving.{one_resolved}
use Rattle.failures.proofs.resolve.Goals as goal

pub loop-i-preserved : goal.loop-i-preserved
loop-i-preserved g c = (search rules, search rules, one_resolved c.loop-i.meant c.loop-i.i c.loop-i.invariant.2 (omega arith) _ c.meant.ensures)
