-- The loop's invariant: the first k entries of each column are in their places.
use Rattle.numbers.proofs.Words.{ℕ, nat_abs}
use Rattle.numbers.proofs.Filled.{Filled}
use Rattle.rules.specs.Book.{notice_at}
use Rattle.method_columns.proofs.notices.fill.Given as goal

abbrev pub invariant-loop-k : goal.invariant-loop-k
invariant-loop-k l =
    Filled (λ (j : ℕ). (notice_at l.b j).section) l.initial.sellers l.sellers l.k
    × Filled (λ (j : ℕ). (notice_at l.b j).elevator) l.initial.stands l.stands l.k
    × Filled (λ (j : ℕ). nat_abs (notice_at l.b j).lots.0) l.initial.lots l.lots l.k
