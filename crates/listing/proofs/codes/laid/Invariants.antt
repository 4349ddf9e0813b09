use Rattle.numbers.proofs.Words.{ℕ}
use Rattle.rules.specs.Book.{section_at}
use Rattle.listing.proofs.Laws.Codes.{Codes}
use Rattle.listing.proofs.codes.laid.Given as goal

abbrev pub invariant-loop-i : goal.invariant-loop-i
invariant-loop-i l = Codes (λ (j : ℕ). (section_at l.fn.b j).code) l.codes l.i
