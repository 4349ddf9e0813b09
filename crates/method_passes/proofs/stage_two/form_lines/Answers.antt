use Rattle.numbers.proofs.Words.{append-nil, length-append, arith, refl, sym, ap, ◌∙◌, List, length, ◌++◌}
use Rattle.rules.specs.Expiry.Passes.{Line}
use Rattle.method_laws.specs.Columns.{by_key}
use Rattle.method_passes.specs.Formed.{pairs_in, lines_in, lines_from}
use Rattle.method_passes.proofs.Arrays.{pairs_count, lines_count}
use Rattle.method_passes.proofs.Lining.{some_there, no_lines, Taken, taken, lining_start, lining_end, lining_stop, lining_room, lining_next}
use Rattle.method_passes.proofs.stage_two.form_lines.Goals as goal
use Rattle.method_passes.proofs.stage_two.form_lines.Goals.{After-choose-next}

-- there are pairs and notices, and a place for each pair
turn : (c : After-choose-next) → Taken (by_key c.args.keys.now) c.args.sellers.now c.args.stands.now c.loop-turn.ps c.loop-turn.drawn c.choose-next.result
turn c = let some = some_there c.args.formed.count (length c.args.stands.now) c.loop-turn.ps.count c.loop-turn.invariant.same_count c.if-count-filed.false in taken _ _ _ _ _ some.0 some.1 c.choose-next.result c.choose-next.ensures

pub returns-then-count-filed : goal.returns-then-count-filed
returns-then-count-filed c =
    let a = c.args in
    sym (append-nil (lines_in a.before)) ∙ ap (λ (ls : List Line). lines_in a.before ++ ls) (sym (no_lines (by_key a.keys.now) a.sellers.now a.stands.now a.formed a.drawn.now c.if-count-filed.true))

pub overflow_add-turns : goal.overflow_add-turns
overflow_add-turns c = omega (arith, pairs_count c.args.formed, c.requires.known.0.few, c.requires.known.1.notices.few)

pub loop-turn-init : goal.loop-turn-init
loop-turn-init c =
    let a = c.args in
    lining_start (by_key a.keys.now) a.sellers.now a.stands.now _ _ _ _ a.drawn.now a.formed a.before refl refl c.requires.known.0 c.requires.known.1 refl

pub bounds-sellers-k : goal.bounds-sellers-k
bounds-sellers-k c = omega (arith, (turn (goal.at.bounds-sellers-k c).After-choose-next).notice, c.loop-turn.invariant.sold.long)

pub overflow_cast-lots : goal.overflow_cast-lots
overflow_cast-lots c = omega (arith, (turn (goal.at.overflow_cast-lots c).After-choose-next).of_notice, c.loop-turn.invariant.sold.notices.small c.choose-next.result.notice)

-- the register has a place for the line
pub push-requires : goal.push-requires
push-requires c =
    let a = c.args in
    omega (
      arith,
      lining_room _ _ _ _ _ _ _ c.loop-turn.invariant (turn (goal.at.push-requires c).After-choose-next) c.loop-turn-test.true c.if-lots-eq0.false,
      length-append (lines_in a.before) (lines_from (by_key a.keys.now) a.sellers.now a.stands.now (pairs_in a.formed) a.drawn.now),
      lines_count a.before,
      c.requires.drawn_bound,
    )

pub overflow_sub-has : goal.overflow_sub-has
overflow_sub-has c = (turn (goal.at.overflow_sub-has c).After-choose-next).of_pair

pub leave-requires : goal.leave-requires
leave-requires c = ((turn (goal.at.leave-requires c).After-choose-next).pair, omega (arith, pairs_count c.loop-turn.ps, c.loop-turn.invariant.known.few))

pub offset_bounds-drawn-k : goal.offset_bounds-drawn-k
offset_bounds-drawn-k c = omega (arith, (turn (goal.at.offset_bounds-drawn-k c).After-choose-next).notice, c.loop-turn.invariant.sold.notices.few)

pub bounds-drawn-k : goal.bounds-drawn-k
bounds-drawn-k c = omega (arith, (turn (goal.at.bounds-drawn-k c).After-choose-next).notice, c.loop-turn.invariant.sold.notices.long)

pub overflow_sub-drawn : goal.overflow_sub-drawn
overflow_sub-drawn c =
    let turn = turn (goal.at.overflow_sub-drawn c).After-choose-next in
    omega (arith, turn.of_notice, turn.of_pair)

pub offset_bounds-drawn-k-in-loop-turn : goal.offset_bounds-drawn-k-in-loop-turn
offset_bounds-drawn-k-in-loop-turn c = omega (arith, (turn (goal.at.offset_bounds-drawn-k-in-loop-turn c).After-choose-next).notice, c.loop-turn.invariant.sold.notices.few)

pub bounds-drawn-k-in-loop-turn : goal.bounds-drawn-k-in-loop-turn
bounds-drawn-k-in-loop-turn c = omega (arith, (turn (goal.at.bounds-drawn-k-in-loop-turn c).After-choose-next).notice, c.loop-turn.invariant.sold.notices.long)

pub loop-turn-preserved : goal.loop-turn-preserved
loop-turn-preserved c =
    let turn = turn (goal.at.loop-turn-preserved c).After-choose-next in
    lining_next _ _ _ _ _ _ _ c.loop-turn.invariant turn c.loop-turn-test.true c.if-lots-eq0.false c.leave.new.self c.push.new.self c.leave.ensures c.push.ensures

pub returns-after-loop-turn : goal.returns-after-loop-turn
returns-after-loop-turn c = lining_end _ _ _ _ _ _ _ c.loop-turn.invariant c.loop-turn-test.false

pub returns-then-lots-eq0 : goal.returns-then-lots-eq0
returns-then-lots-eq0 c = lining_stop _ _ _ _ _ _ _ c.loop-turn.invariant (turn (goal.at.returns-then-lots-eq0 c).After-choose-next) c.if-lots-eq0.true
