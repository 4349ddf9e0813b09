use Rattle.numbers.proofs.Words.{arith, refl}
use Rattle.method_laws.specs.Columns.{by_key}
use Rattle.method_passes.proofs.Scan.{scan_start, scan_next, scan_end}
use Rattle.method_passes.proofs.fullest.buyer.Goals as goal

pub loop-i-init : goal.loop-i-init
loop-i-init c = scan_start (by_key c.args.keys.now) c.args.lots.now

pub loop-i-preserved : goal.loop-i-preserved
loop-i-preserved c =
    let a = c.args in
    scan_next (by_key a.keys.now) a.lots.now c.loop-i.best c.loop-i.i _ _ _ _ (omega arith) c.loop-i.invariant refl refl refl c.leader-best.ensures

pub returns : goal.returns
returns c =
    let a = c.args in
    scan_end (by_key a.keys.now) a.lots.now c.loop-i.best c.loop-i.i (omega arith) c.loop-i.invariant
