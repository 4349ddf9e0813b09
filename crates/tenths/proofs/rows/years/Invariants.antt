use Rattle.numbers.proofs.Words.{ℕ, ◌+◌}
use Rattle.listing.proofs.Laws.Rows.{Rows}
use Rattle.tenths.specs.Texts.{year_row}
use Rattle.tenths.proofs.rows.years.Given as goal

abbrev pub invariant-loop-i : goal.invariant-loop-i
invariant-loop-i l = Rows (λ (j : ℕ). year_row (2021 + j)) 30 l.initial.out 0 l.out l.next l.i
