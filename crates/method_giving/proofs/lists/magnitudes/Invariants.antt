-- The loop's invariant: the first i entries are the sizes of the first i numbers, and the others are as they were.
use Rattle.numbers.proofs.Words.{◌≤◌, ◌≡◌, ◌++◌, map, length, take, drop, nat_abs}
use Rattle.method_giving.proofs.lists.magnitudes.Given as goal

abbrev pub invariant-loop-i : goal.invariant-loop-i
invariant-loop-i l = (l.i ≤ length l.numbers) × (l.out ≡ map nat_abs (take l.i l.numbers) ++ drop l.i l.initial.out)
