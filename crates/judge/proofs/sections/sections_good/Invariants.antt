use Rattle.numbers.proofs.Words.{w64, of_z}
use Rattle.numbers.proofs.Keys.{Walked}
use Rattle.numbers.proofs.Sums.{Running}
use Rattle.rules.specs.Book.{held_sections, position_of, basis_of, section_good}
use Rattle.judge.proofs.Laws.{code_key}
use Rattle.judge.proofs.sections.sections_good.Given as goal

abbrev pub invariant-loop-i : goal.invariant-loop-i
invariant-loop-i l = Walked (section_good l.b.trades) code_key (held_sections l.b) l.initial.codes l.codes l.i × Running position_of 1_000_000 (held_sections l.b) (of_z w64 l.positions) l.i × Running basis_of 21_000_000_000_000_000 (held_sections l.b) (of_z w64 l.bases) l.i
