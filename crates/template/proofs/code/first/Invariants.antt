use Rattle.numbers.proofs.Words.{ℕ, entry}
use Rattle.template.specs.Template.{byte_text}
use Rattle.listing.proofs.Laws.Rows.{Rows}
use Rattle.template.proofs.code.first.Given as goal

abbrev pub invariant-loop-i : goal.invariant-loop-i
invariant-loop-i l = Rows (λ (j : ℕ). byte_text (entry l.codes j)) 7 l.initial.out l.at l.out l.next l.i
