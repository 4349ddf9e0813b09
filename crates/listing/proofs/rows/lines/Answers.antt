use Rattle.listing.proofs.Laws.Rows.{rows_start, rows_room, rows_next}
use Rattle.listing.proofs.rows.lines.Goals as goal

pub loop-i-init : goal.loop-i-init
loop-i-init c = rows_start _ _ _ _ c.requires.lines_in_bounds_2

pub line-next-requires-clause-lots_in_bounds : goal.line-next-requires-clause-lots_in_bounds
line-next-requires-clause-lots_in_bounds c = rows_room c.loop-i.invariant c.loop-i-test.true

pub loop-i-preserved : goal.loop-i-preserved
loop-i-preserved c = rows_next c.loop-i.invariant c.loop-i-test.true c.line-next.ensures
