use Rattle.listing.proofs.Laws.Digits.{Digits}
use Rattle.listing.proofs.digits.laid.Given as goal

abbrev pub invariant-loop-left : goal.invariant-loop-left
invariant-loop-left l = Digits l.n l.digits l.left l.from

abbrev pub decreases-loop-left : goal.decreases-loop-left
decreases-loop-left l = l.from
