use Rattle.call_label.proofs.Laws.Digits.{Passed}
use Rattle.call_label.proofs.lengths.digits.Given as goal

abbrev pub invariant-loop-more : goal.invariant-loop-more
invariant-loop-more l = Passed l.n l.more
