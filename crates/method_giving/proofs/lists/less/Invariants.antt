-- The loop's invariant: the first i entries are what is left of them, and the others are as they were.
use Rattle.numbers.proofs.Words.{ℕ, ◌-◌, entry}
use Rattle.numbers.proofs.Filled.{Filled}
use Rattle.method_giving.proofs.lists.less.Given as goal

abbrev pub invariant-loop-i : goal.invariant-loop-i
invariant-loop-i l = Filled (λ (j : ℕ). entry l.initial.lots j - entry l.taken j) l.initial.lots l.lots l.i
