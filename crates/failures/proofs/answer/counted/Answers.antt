use Rattle.numbers.proofs.Words.{arith}
use Rattle.numbers.specs.Text.{decimal}
use Rattle.listing.proofs.Laws.Parts.{room_field, then, finished}
use Rattle.failures.proofs.Laws.Printed.{counts_begun, counts_most}
use Rattle.failures.proofs.answer.counted.Goals as goal

-- nothing stands yet
pub number-at-requires : goal.number-at-requires
number-at-requires c =
    let begun = counts_begun c.args.counts (omega (arith, c.well_formed)) (omega (arith, c.well_formed)) (omega (arith, c.well_formed)) c.args.out.now c.requires in
    rw c.from-full.ensures (room_field (decimal _) 32 begun)

pub number-at-requires-2 : goal.number-at-requires-2
number-at-requires-2 c =
    let begun = counts_begun c.args.counts (omega (arith, c.well_formed)) (omega (arith, c.well_formed)) (omega (arith, c.well_formed)) c.args.out.now c.requires in
    rw c.from-part.ensures (room_field (decimal _) 32 (then begun (rw c.from-full.ensures at c.number-at.ensures)))

pub number-requires : goal.number-requires
number-requires c =
    let begun = counts_begun c.args.counts (omega (arith, c.well_formed)) (omega (arith, c.well_formed)) (omega (arith, c.well_formed)) c.args.out.now c.requires in
    rw c.from-none.ensures (room_field (decimal _) 10 (then (then begun (rw c.from-full.ensures at c.number-at.ensures)) (rw c.from-part.ensures at c.number-at-2.ensures)))

pub returns : goal.returns
returns c =
    let begun = counts_begun c.args.counts (omega (arith, c.well_formed)) (omega (arith, c.well_formed)) (omega (arith, c.well_formed)) c.args.out.now c.requires in
    let most = counts_most c.args.counts (omega (arith, c.well_formed)) (omega (arith, c.well_formed)) (omega (arith, c.well_formed)) in
    let laid = finished (then (then (then begun (rw c.from-full.ensures at c.number-at.ensures)) (rw c.from-part.ensures at c.number-at-2.ensures)) (rw c.from-none.ensures at c.number.ensures)) in
    record { laid = laid; upper_bound = omega (arith, laid.ends, most) }
