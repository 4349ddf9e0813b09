-- The loop's invariant: the caps of the first codes are in their places.
use Rattle.numbers.proofs.Words.{ℕ, cond, ℤ, nat_abs, entry_ℤ}
use Rattle.numbers.proofs.Filled.{Filled}
use Rattle.rules.specs.Expiry.{opposed}
use Rattle.method_steps.proofs.across.code_caps.Given as goal

abbrev pub cap_of : ℤ → ℤ → ℕ
cap_of d net = cond (opposed net d) (nat_abs net) 0

abbrev pub invariant-loop-c : goal.invariant-loop-c
invariant-loop-c l = Filled (λ (i : ℕ). cap_of l.d (entry_ℤ l.nets i)) l.initial.caps l.caps l.c
