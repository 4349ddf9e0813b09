use Rattle.numbers.proofs.Words.{◌≡◌, length, take}
use Rattle.failures.specs.Prints.{Resolved}
use Rattle.failures.proofs.resolve.Given as goal

abbrev pub invariant-loop-i : goal.invariant-loop-i
invariant-loop-i g l = (length l.meant ≡ length l.initial.meant) × (length l.word ≡ 4_096) × Resolved l.keys (take l.i l.meant)
