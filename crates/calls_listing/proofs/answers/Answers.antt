use Rattle.numbers.proofs.Words.{zero-add}
use Rattle.listing.proofs.Laws.Rows.{rows_start, rows_room, rows_next}
use Rattle.calls_listing.proofs.answers.Goals as goal

pub loop-i-init : goal.loop-i-init
loop-i-init c = rows_start _ _ _ _ (rw zero-add c.requires.1)

pub call-next-requires : goal.call-next-requires
call-next-requires c = rows_room c.loop-i.invariant c.loop-i-test.true

pub loop-i-preserved : goal.loop-i-preserved
loop-i-preserved c = rows_next c.loop-i.invariant c.loop-i-test.true c.call-next.ensures
