use Rattle.numbers.proofs.Words.{ltb}
use Rattle.method_passes.proofs.Scan.{Scan}
use Rattle.method_passes.proofs.fullest.elevator.Given as goal

abbrev pub invariant-loop-i : goal.invariant-loop-i
invariant-loop-i l = Scan ltb l.lots l.best l.i
