use Rattle.numbers.proofs.Words.{length}
use Rattle.listing.proofs.Laws.Rows.{Rows}
use Rattle.calls_listing.specs.Texts.{whole_at}
use Rattle.calls_listing.proofs.fields.wholes.Given as goal

abbrev pub invariant-loop-i : goal.invariant-loop-i
invariant-loop-i l = Rows (whole_at l.numbers) (length l.numbers) l.initial.out l.at l.out l.next l.i
