use Rattle.numbers.proofs.Words.{zero-add}
use Rattle.listing.proofs.Laws.Laid.{laid_over}
use Rattle.listing.proofs.Laws.Rows.{rows_start, rows_room, rows_next, rows_end}
use Rattle.tenths.proofs.Laws.{table_years}
use Rattle.tenths.proofs.rows.years.Goals as goal

pub loop-i-init : goal.loop-i-init
loop-i-init c = rows_start _ 30 _ 0 (rw (zero-add, ← table_years) c.requires)

pub year_row-next-requires : goal.year_row-next-requires
year_row-next-requires c = rows_room c.loop-i.invariant c.loop-i-test.true

pub loop-i-preserved : goal.loop-i-preserved
loop-i-preserved c = rows_next c.loop-i.invariant c.loop-i-test.true c.year_row-next.ensures

pub returns : goal.returns
returns c = rw table_years (laid_over _ (rows_end c.loop-i.invariant c.loop-i-test.false)).1
