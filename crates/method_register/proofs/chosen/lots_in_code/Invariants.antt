-- The loop's invariant: the first i entries are those of the code's sections, and the others are as they were.
use Rattle.numbers.proofs.Words.{ℕ, cond, eqb, entry}
use Rattle.numbers.proofs.Filled.{Filled}
use Rattle.method_register.proofs.chosen.lots_in_code.Given as goal

abbrev pub invariant-loop-i : goal.invariant-loop-i
invariant-loop-i l = Filled (λ (j : ℕ). cond (eqb (entry l.codes j) l.c) (entry l.lots j) 0) l.initial.out l.out l.i
