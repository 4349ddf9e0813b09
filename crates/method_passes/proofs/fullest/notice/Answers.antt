use Rattle.numbers.proofs.Words.{ℕ, Bool, List, arith, refl, entry}
use Rattle.rules.specs.Expiry.Passes.{offers}
use Rattle.method_laws.specs.Columns.{by_key}
use Rattle.method_passes.proofs.Scan.{scan_start, scan_next, scan_end}
use Rattle.method_passes.proofs.Offered.{offers_length}
use Rattle.method_passes.proofs.fullest.notice.Goals as goal

abbrev earlier : List ℕ → List ℕ → ℕ → ℕ → Bool
earlier keys sellers i j = by_key keys (entry sellers i) (entry sellers j)

pub loop-i-init : goal.loop-i-init
loop-i-init c =
    let a = c.args in
    scan_start (earlier a.keys.now a.sellers.now) (offers a.stands.now a.drawn.now a.elevator)

pub loop-i-preserved : goal.loop-i-preserved
loop-i-preserved c =
    let a = c.args in
    scan_next (earlier a.keys.now a.sellers.now) (offers a.stands.now a.drawn.now a.elevator) c.loop-i.best c.loop-i.i _ _ _ _ (omega (arith, offers_length a.stands.now a.drawn.now a.elevator)) c.loop-i.invariant
    c.offer-own.ensures c.offer-most.ensures refl c.leader-best.ensures

pub returns : goal.returns
returns c =
    let a = c.args in
    scan_end (earlier a.keys.now a.sellers.now) (offers a.stands.now a.drawn.now a.elevator) c.loop-i.best c.loop-i.i (omega (arith, offers_length a.stands.now a.drawn.now a.elevator)) c.loop-i.invariant
