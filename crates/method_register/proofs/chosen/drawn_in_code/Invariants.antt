-- The loop's invariant: the first k entries are those of the notices of the code's sections, and the others are as they were.
use Rattle.numbers.proofs.Words.{ℕ, cond, eqb, entry}
use Rattle.numbers.proofs.Filled.{Filled}
use Rattle.method_register.proofs.chosen.drawn_in_code.Given as goal

abbrev pub invariant-loop-k : goal.invariant-loop-k
invariant-loop-k l = Filled (λ (j : ℕ). cond (eqb (entry l.codes (entry l.sellers j)) l.c) (entry l.drawn j) 0) l.initial.out l.out l.k
