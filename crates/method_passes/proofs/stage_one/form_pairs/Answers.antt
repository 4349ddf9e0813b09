use Rattle.numbers.proofs.Words.{arith, refl, rules}
use Rattle.method_laws.specs.Columns.{by_key}
use Rattle.method_passes.proofs.Arrays.{one_more_pair}
use Rattle.method_passes.proofs.Pairing.{Turn, pairing_start, pairing_next, pairing_stop, pairing_end}
use Rattle.method_passes.proofs.stage_one.form_pairs.Goals as goal
use Rattle.method_passes.proofs.stage_one.form_pairs.Goals.{After-min-amount}

-- what the buyer and the elevator of a turn have
turn : (c : After-min-amount) → Turn (by_key c.args.keys.now) c.loop-ps.buyers c.loop-ps.stocks c.buyer-buyer.result c.elevator-elevator.result c.unwrap_or-has.result c.unwrap_or-stands.result c.min-amount.result
turn c = record { buyer = c.buyer-buyer.ensures; elevator = c.elevator-elevator.ensures; of_buyer = search rules; of_elevator = search rules; smaller = c.min-amount.ensures }

pub loop-ps-init : goal.loop-ps-init
loop-ps-init c =
    pairing_start (by_key c.args.keys.now) _ _ _ c.args.buyers.now c.args.stocks.now c.none-ps.result c.none-ps.ensures c.requires.1 c.requires.2 refl

pub loop-ps-smaller : goal.loop-ps-smaller
loop-ps-smaller c = omega (arith, c.loop-ps-test.true, one_more_pair c.loop-ps.ps c.push.new.self _ c.push.ensures)

pub loop-ps-preserved : goal.loop-ps-preserved
loop-ps-preserved c =
    pairing_next _ _ _ _ c.loop-ps.invariant (turn (goal.at.loop-ps-preserved c).After-min-amount) c.loop-ps-test.true c.if-amount-eq0.false c.push.new.self c.push.ensures

pub returns-after-loop-ps : goal.returns-after-loop-ps
returns-after-loop-ps c = pairing_end _ _ _ _ c.loop-ps.invariant c.loop-ps-test.false

pub returns-then-amount-eq0 : goal.returns-then-amount-eq0
returns-then-amount-eq0 c =
    pairing_stop _ _ _ _ c.loop-ps.invariant (turn (goal.at.returns-then-amount-eq0 c).After-min-amount) c.loop-ps-test.true c.if-amount-eq0.true
