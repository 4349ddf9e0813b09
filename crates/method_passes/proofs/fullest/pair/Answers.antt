use Rattle.numbers.proofs.Words.{ℕ, Bool, List, ◌<◌, ◌≤◌, arith, sym, ap₂, ◌∙◌, length, entry}
use Rattle.rules.specs.Expiry.Passes.{pair_of, earlier_pair}
use Rattle.method_laws.specs.Columns.{by_key}
use Rattle.method_passes.specs.declared.{pairs.Pairs.Pairs}
use Rattle.method_passes.specs.Formed.{pairs_in}
use Rattle.method_passes.proofs.Scan.{scan_start, scan_next, scan_end}
use Rattle.method_passes.proofs.Arrays.{pairs_count, pair_at, lots_in, lots_length, lots_at_lem, known_buyer}
use Rattle.method_passes.proofs.fullest.pair.Goals as goal

abbrev earlier : List ℕ → Pairs → ℕ → ℕ → Bool
earlier keys ps i j = earlier_pair (by_key keys) (pair_of (pairs_in ps) i) (pair_of (pairs_in ps) j)

pub loop-i-init : goal.loop-i-init
loop-i-init c = scan_start (earlier c.args.keys.now c.args.ps) (lots_in c.args.ps)

pub bounds-ps-i : goal.bounds-ps-i
bounds-ps-i c =
    -- there is a place for each pair, and each buyer has a key
    let few : c.args.ps.count ≤ 160 = omega (arith, pairs_count c.args.ps, c.requires.few) in
    omega (arith, few)

pub bounds-ps-best : goal.bounds-ps-best
bounds-ps-best c =
    -- there is a place for each pair, and each buyer has a key
    let few : c.args.ps.count ≤ 160 = omega (arith, pairs_count c.args.ps, c.requires.few) in
    omega (arith, few)

pub bounds-ps-i-in-loop-i : goal.bounds-ps-i-in-loop-i
bounds-ps-i-in-loop-i c =
    -- there is a place for each pair, and each buyer has a key
    let few : c.args.ps.count ≤ 160 = omega (arith, pairs_count c.args.ps, c.requires.few) in
    omega (arith, few)

pub bounds-ps-best-in-loop-i : goal.bounds-ps-best-in-loop-i
bounds-ps-best-in-loop-i c =
    -- there is a place for each pair, and each buyer has a key
    let few : c.args.ps.count ≤ 160 = omega (arith, pairs_count c.args.ps, c.requires.few) in
    omega (arith, few)

pub bounds-keys-buyer : goal.bounds-keys-buyer
bounds-keys-buyer c =
    let keyed : (k : ℕ) → k < c.args.ps.count → entry c.args.ps.buyers k < length c.args.keys.now = known_buyer c.args.ps _ c.requires in
    keyed c.loop-i.i (omega arith)

pub bounds-keys-other : goal.bounds-keys-other
bounds-keys-other c =
    let keyed : (k : ℕ) → k < c.args.ps.count → entry c.args.ps.buyers k < length c.args.keys.now = known_buyer c.args.ps _ c.requires in
    keyed c.loop-i.best (omega arith)

pub bounds-ps-i-in-loop-i-2 : goal.bounds-ps-i-in-loop-i-2
bounds-ps-i-in-loop-i-2 c =
    -- there is a place for each pair, and each buyer has a key
    let few : c.args.ps.count ≤ 160 = omega (arith, pairs_count c.args.ps, c.requires.few) in
    omega (arith, few)

pub bounds-ps-best-in-loop-i-2 : goal.bounds-ps-best-in-loop-i-2
bounds-ps-best-in-loop-i-2 c =
    -- there is a place for each pair, and each buyer has a key
    let few : c.args.ps.count ≤ 160 = omega (arith, pairs_count c.args.ps, c.requires.few) in
    omega (arith, few)

pub loop-i-preserved : goal.loop-i-preserved
loop-i-preserved c =
    let keys = c.args.keys.now in
    let ps = c.args.ps in
    let below : c.loop-i.i < ps.count = omega arith in
    let below' : c.loop-i.best < ps.count = omega arith in
    scan_next (earlier keys ps) (lots_in ps) c.loop-i.best c.loop-i.i _ _ _ _ (omega (arith, lots_length ps)) c.loop-i.invariant
    (sym (lots_at_lem ps c.loop-i.i below))
    (sym (lots_at_lem ps c.loop-i.best below'))
    (c.earlier_pair-earlier.ensures ∙ sym (ap₂ (earlier_pair (by_key keys)) (pair_at ps c.loop-i.i below) (pair_at ps c.loop-i.best below')))
    c.leader-best.ensures

pub returns : goal.returns
returns c =
    let ps = c.args.ps in
    scan_end (earlier c.args.keys.now ps) (lots_in ps) c.loop-i.best c.loop-i.i (omega (arith, lots_length ps)) c.loop-i.invariant
