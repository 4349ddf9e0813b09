-- The loop's invariant: the participants of the first i sections are in their places.
use Rattle.numbers.proofs.Words.{ℕ}
use Rattle.numbers.proofs.Filled.{Filled}
use Rattle.rules.specs.Book.{section_at}
use Rattle.method_columns.proofs.participants.fill.Given as goal

abbrev pub invariant-loop-i : goal.invariant-loop-i
invariant-loop-i l = Filled (λ (j : ℕ). (section_at l.b j).participant) l.initial.participants l.participants l.i
