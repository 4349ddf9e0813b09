use Rattle.listing.proofs.Laws.Rows.{Rows}
use Rattle.tenths.specs.Texts.{number_field}
use Rattle.tenths.proofs.rows.year_row.Given as goal

abbrev pub invariant-loop-i : goal.invariant-loop-i
invariant-loop-i l = Rows (number_field l.year) 12 l.initial.out l.at l.out l.next l.i
