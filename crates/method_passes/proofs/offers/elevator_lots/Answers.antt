use Rattle.numbers.proofs.Words.{◌<◌, ◌≤◌, arith, entry}
use Rattle.method_passes.proofs.Offered.{summed_none, summed_fits, summed_next, summed_all}
use Rattle.method_passes.proofs.offers.elevator_lots.Goals as goal

pub loop-k-init : goal.loop-k-init
loop-k-init c = summed_none c.args.stands.now c.args.drawn.now c.args.out.now c.requires.1

pub overflow_add-out : goal.overflow_add-out
overflow_add-out c =
    -- the notice stands at an elevator, the list has a place for each, and no sum is too large
    let there : entry c.args.stands.now c.loop-k.k < 32 = c.requires.0.standing c.loop-k.k (omega arith) in
    let fits : entry c.loop-k.out (entry c.args.stands.now c.loop-k.k) ≤ 256_000_000 = summed_fits c.args.stands.now c.args.drawn.now c.loop-k.out c.loop-k.k c.loop-k.invariant c.requires.0 _ there in
    omega (arith, there, fits, c.requires.0.small c.loop-k.k)

pub loop-k-preserved : goal.loop-k-preserved
loop-k-preserved c =
    -- the notice stands at an elevator, the list has a place for each, and no sum is too large
    let there : entry c.args.stands.now c.loop-k.k < 32 = c.requires.0.standing c.loop-k.k (omega arith) in
    let a = c.args in
    summed_next a.stands.now a.drawn.now c.loop-k.out c.loop-k.k c.loop-k.invariant (omega arith) there

pub returns : goal.returns
returns c =
    summed_all c.args.stands.now c.args.drawn.now c.loop-k.out c.loop-k.k c.loop-k.invariant (omega arith)
