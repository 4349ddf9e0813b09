use Rattle.shared_lists.specs.Lists.{lists_read}
use Rattle.listing.specs.Columns.{section_row_of}
use Rattle.listing.proofs.Laws.Rows.{Rows}
use Rattle.listing.proofs.rows.sections.Given as goal

abbrev pub invariant-loop-i : goal.invariant-loop-i
invariant-loop-i l = Rows (section_row_of l.codes (lists_read l.lists)) l.held l.initial.out l.at l.out l.next l.i
