use Rattle.listing.proofs.Laws.Rows.{rows_start, rows_room, rows_next}
use Rattle.calls_listing.proofs.lots.sections.Goals as goal

pub loop-i-init : goal.loop-i-init
loop-i-init c = rows_start _ _ _ _ c.requires.held_in_bounds

pub lots-next-requires-clause-end_in_bounds : goal.lots-next-requires-clause-end_in_bounds
lots-next-requires-clause-end_in_bounds c = rows_room c.loop-i.invariant c.loop-i-test.true

pub loop-i-preserved : goal.loop-i-preserved
loop-i-preserved c = rows_next c.loop-i.invariant c.loop-i-test.true c.lots-next.ensures
