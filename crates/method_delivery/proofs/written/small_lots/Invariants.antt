-- The loop's invariant: the first i entries are those of `from`.
use Rattle.numbers.proofs.Words.{entry}
use Rattle.numbers.proofs.Filled.{Filled}
use Rattle.method_delivery.proofs.written.small_lots.Given as goal

abbrev pub invariant-loop-i : goal.invariant-loop-i
invariant-loop-i l = Filled (entry l.from) l.initial.to l.to l.i
