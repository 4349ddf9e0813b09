use Rattle.template.specs.Template.{first_code}
use Rattle.listing.proofs.Laws.Rows.{rows_start, rows_room, rows_next, rows_end}
use Rattle.template.proofs.code.first.Goals as goal

pub loop-i-init : goal.loop-i-init
unfolding first_code
loop-i-init c = rows_start _ _ _ _ c.requires

pub byte-next-requires : goal.byte-next-requires
byte-next-requires c = rw c.nth-b.ensures (rows_room c.loop-i.invariant c.loop-i-test.true)

pub loop-i-preserved : goal.loop-i-preserved
loop-i-preserved c =
    let read = c in
    rows_next read.loop-i.invariant read.loop-i-test.true (rw read.nth-b.ensures at c.byte-next.ensures)

pub returns : goal.returns
unfolding first_code
returns c = rows_end c.loop-i.invariant c.loop-i-test.false
