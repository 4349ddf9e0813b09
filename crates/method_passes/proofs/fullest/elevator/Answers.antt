use Rattle.numbers.proofs.Words.{arith, refl, ltb}
use Rattle.method_passes.proofs.Scan.{scan_start, scan_next, scan_end}
use Rattle.method_passes.proofs.fullest.elevator.Goals as goal

pub loop-i-init : goal.loop-i-init
loop-i-init c = scan_start ltb c.args.lots.now

pub loop-i-preserved : goal.loop-i-preserved
loop-i-preserved c =
    scan_next ltb c.args.lots.now c.loop-i.best c.loop-i.i _ _ _ _ c.loop-i-test.true c.loop-i.invariant refl refl refl c.leader-best.ensures

pub returns : goal.returns
returns c = scan_end ltb c.args.lots.now c.loop-i.best c.loop-i.i (omega arith) c.loop-i.invariant
