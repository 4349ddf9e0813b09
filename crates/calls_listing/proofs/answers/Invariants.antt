use Rattle.numbers.proofs.Words.{ℕ, ◌+◌, length, entry}
use Rattle.rules.specs.CallsListing.{call_row}
use Rattle.listing.proofs.Laws.Rows.{Rows}
use Rattle.calls_listing.proofs.answers.Given as goal

abbrev pub invariant-loop-i : goal.invariant-loop-i
invariant-loop-i l = Rows (λ (j : ℕ). call_row (l.place + j) (entry l.numbers j)) (length l.numbers) l.initial.out 0 l.out l.next l.i
