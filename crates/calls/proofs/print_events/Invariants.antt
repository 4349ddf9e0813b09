use Rattle.numbers.proofs.Words.{◌-◌, ◌≡◌, length}
use Rattle.calls.specs.Printing.{Printing}
use Rattle.calls.proofs.print_events.Given as goal

abbrev pub invariant-loop-place : goal.invariant-loop-place
invariant-loop-place g l = Printing l.file l.n l.place l.book × (length l.out ≡ 34_200)

abbrev pub decreases-loop-place : goal.decreases-loop-place
decreases-loop-place g l = l.n - l.place
