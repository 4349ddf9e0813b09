-- The loop's invariant: the first i entries of each column are in their places.
use Rattle.numbers.proofs.Words.{ℕ, big_endian}
use Rattle.numbers.proofs.Filled.{Filled}
use Rattle.rules.specs.Book.{section_at, position_of}
use Rattle.method_columns.proofs.sections.fill.Given as goal

abbrev pub invariant-loop-i : goal.invariant-loop-i
invariant-loop-i l =
    Filled (λ (j : ℕ). (section_at l.b j).settlement) l.initial.codes l.codes l.i
    × Filled (λ (j : ℕ). position_of (section_at l.b j)) l.initial.positions l.positions l.i
    × Filled (λ (j : ℕ). big_endian (section_at l.b j).code) l.initial.keys l.keys l.i
