-- The loop's invariant: the first i entries are those of the long sections, and the others are as they were.
use Rattle.numbers.proofs.Words.{ℕ, cond, entry, entry_ℤ}
use Rattle.numbers.proofs.Filled.{Filled}
use Rattle.rules.specs.Expiry.{is_long}
use Rattle.method_register.proofs.chosen.keep_long.Given as goal

abbrev pub invariant-loop-i : goal.invariant-loop-i
invariant-loop-i l = Filled (λ (j : ℕ). cond (is_long (entry_ℤ l.positions j)) (entry l.initial.lots j) 0) l.initial.lots l.lots l.i
