use Rattle.shared_lists.specs.Lists.{lists_read}
use Rattle.listing.specs.Columns.{line_row_of}
use Rattle.listing.proofs.Laws.Rows.{Rows}
use Rattle.listing.proofs.rows.lines.Given as goal

abbrev pub invariant-loop-i : goal.invariant-loop-i
invariant-loop-i l = Rows (line_row_of l.codes l.lot (lists_read l.lists).lists) l.lines l.initial.out l.at l.out l.next l.i
