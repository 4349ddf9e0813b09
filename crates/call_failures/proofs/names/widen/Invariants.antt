-- The loop's invariant: the first i entries are those of the other list.
use Rattle.numbers.proofs.Words.{entry}
use Rattle.numbers.proofs.Filled.{Filled}
use Rattle.call_failures.proofs.names.widen.Given as goal

abbrev pub invariant-loop-i : goal.invariant-loop-i
invariant-loop-i l = Filled (entry l.named) l.initial.wide l.wide l.i
