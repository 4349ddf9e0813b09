use Rattle.shared_lists.specs.Lists.{lists_read}
use Rattle.listing.proofs.Laws.Rows.{Rows}
use Rattle.calls_listing.specs.Texts.{lots_at}
use Rattle.calls_listing.proofs.lots.sections.Given as goal

abbrev pub invariant-loop-i : goal.invariant-loop-i
invariant-loop-i l = Rows (lots_at l.codes (lists_read l.lists).lists) l.held l.initial.out l.at l.out l.next l.i
