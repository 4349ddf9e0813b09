-- The loop's invariant: the lots of the first i sections are in their places.
use Rattle.numbers.proofs.Words.{ℕ}
use Rattle.numbers.proofs.Filled.{Filled}
use Rattle.rules.specs.Book.{held_sections, filed_notices, section_of}
use Rattle.rules.specs.Expiry.Failing.{noticed}
use Rattle.method_columns.specs.Failing.{failed_lots}
use Rattle.method_columns.proofs.failing.failing.Given as goal

abbrev pub invariant-loop-i : goal.invariant-loop-i
invariant-loop-i l = Filled (λ (j : ℕ). failed_lots l.met (section_of (held_sections l.b) j) (noticed (filed_notices l.b) j)) l.initial.lots l.lots l.i
