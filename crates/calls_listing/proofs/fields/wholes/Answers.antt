use Rattle.numbers.proofs.Words.{arith, ◌≡◌, length-append, entry_ℤ, w64, to_z, of_z}
use Rattle.numbers.proofs.Whole.{read_back}
use Rattle.listing.proofs.Laws.Rows.{rows_start, rows_room, rows_next}
use Rattle.calls_listing.proofs.fields.wholes.Goals as goal

pub loop-i-init : goal.loop-i-init
loop-i-init c = rows_start _ _ _ _ c.requires

pub whole-next-requires : goal.whole-next-requires
whole-next-requires c =
    let z = entry_ℤ c.args.numbers.now c.loop-i.i in
    let back : to_z w64 (of_z w64 z) ≡ z = read_back w64 z (search) in
    rw back (omega (arith, rw length-append at (rows_room c.loop-i.invariant c.loop-i-test.true)))

pub loop-i-preserved : goal.loop-i-preserved
loop-i-preserved c =
    let z = entry_ℤ c.args.numbers.now c.loop-i.i in
    let back : to_z w64 (of_z w64 z) ≡ z = read_back w64 z (search) in
    rows_next c.loop-i.invariant c.loop-i-test.true (rw (back, c.end_of-end.ensures) at c.whole-next.ensures)
