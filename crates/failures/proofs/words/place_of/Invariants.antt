use Rattle.failures.proofs.Laws.Places.{NoneBefore}
use Rattle.failures.proofs.words.place_of.Given as goal

abbrev pub invariant-loop-i : goal.invariant-loop-i
invariant-loop-i l = NoneBefore l.keys l.key l.i
