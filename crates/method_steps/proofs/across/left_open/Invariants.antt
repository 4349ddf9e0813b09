-- The loop's invariant: the sum is that of the first codes, and within 256,000,000 for each.
use Rattle.numbers.proofs.Words.{ℕ, ◌*◌, ◌≤◌, ◌≡◌, List, ℤ, nat_abs, ◌+ℤ◌, entry_ℤ, listed, total_ℤ}
use Rattle.method_steps.proofs.across.left_open.Given as goal

-- what a code leaves open
abbrev pub rest : List ℤ → List ℤ → ℕ → ℤ
rest gaps nets c = entry_ℤ gaps c +ℤ entry_ℤ nets c

abbrev pub invariant-loop-c : goal.invariant-loop-c
invariant-loop-c l = (l.d ≡ total_ℤ (listed l.c (rest l.gaps l.nets))) × (nat_abs l.d ≤ 256_000_000 * l.c)
