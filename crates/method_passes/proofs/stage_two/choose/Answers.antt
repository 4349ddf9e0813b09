use Rattle.numbers.proofs.Words.{◌<◌, arith, entry}
use Rattle.method_laws.specs.Columns.{by_key}
use Rattle.method_passes.proofs.Arrays.{pairs_count}
use Rattle.method_passes.proofs.Lining.{pair_there, notice_place, choice_made}
use Rattle.method_passes.proofs.stage_two.choose.Goals as goal
use Rattle.method_passes.proofs.stage_two.choose.Goals.{After-pair-pair}

-- the pair is one of those formed, and has a place
there : (c : After-pair-pair) → c.pair-pair.result < c.args.ps.count
there c = pair_there (by_key c.args.keys.now) c.args.ps c.requires.known.1 c.pair-pair.result c.pair-pair.ensures

place : (c : After-pair-pair) → c.pair-pair.result < 160
place c = omega (arith, there c, pairs_count c.args.ps, c.requires.known.0.few)

pub bounds-ps-pair : goal.bounds-ps-pair
bounds-ps-pair c = place (goal.at.bounds-ps-pair c).After-pair-pair

pub offset_bounds-ps-pair : goal.offset_bounds-ps-pair
offset_bounds-ps-pair c = omega (arith, place (goal.at.offset_bounds-ps-pair c).After-pair-pair)

pub bounds-ps-pair-2 : goal.bounds-ps-pair-2
bounds-ps-pair-2 c = place (goal.at.bounds-ps-pair-2 c).After-pair-pair

pub offer-offered-requires : goal.offer-offered-requires
offer-offered-requires c =
    let a = c.args in
    (c.requires.sold.0.notices.long, omega (arith, c.notice-notice.ensures, notice_place (by_key a.keys.now) a.sellers.now a.stands.now a.drawn.now (entry a.ps.elevators c.pair-pair.result) c.requires.sold.1))

pub returns : goal.returns
returns c =
    let a = c.args in
    let there = there (goal.at.returns c).After-pair-pair in
    choice_made (by_key a.keys.now) a.sellers.now a.stands.now a.ps a.drawn.now c.pair-pair.result c.notice-notice.result c.offer-offered.result c.min-lots.result there c.pair-pair.ensures c.notice-notice.ensures c.offer-offered.ensures c.min-lots.ensures
