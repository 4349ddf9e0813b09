use Rattle.numbers.proofs.Words.{arith, sym, ap, ◌∙◌, Bool, ◌&&◌, ltb, entry}
use Rattle.numbers.proofs.Tests.{both, failed, passed}
use Rattle.rules.specs.LastTradingDay.{closed_good}
use Rattle.numbers.proofs.Lists.{has}
use Rattle.trading_day.proofs.Laws.InTurn.{turn_start, turn_next, turn_stop, turn_end}
use Rattle.trading_day.proofs.closed.in_turn.Goals as goal

pub returns-then-not-later-allowed : goal.returns-then-not-later-allowed
returns-then-not-later-allowed c =
    let xs = c.args.closed.now in
    let i = c.loop-number.number-index in
    let stopped = failed (ap (λ (t : Bool). ltb c.loop-number.last (entry xs i) && t) c.allowed.ensures) c.if-not-later-allowed.true-raw in
    sym (sym (turn_start xs) ∙ c.loop-number.invariant ∙ turn_stop (has xs i 0 (omega arith)) c.loop-number.last stopped)

pub loop-number-preserved : goal.loop-number-preserved
loop-number-preserved c =
    let xs = c.args.closed.now in
    let i = c.loop-number.number-index in
    let above = ltb c.loop-number.last (entry xs i) in
    let tests = both above (closed_good (entry xs i)) (passed (ap (λ (t : Bool). above && t) c.allowed.ensures) c.if-not-later-allowed.false-raw) in
    c.loop-number.invariant ∙ turn_next (has xs i 0 (omega arith)) c.loop-number.last tests.0 tests.1

pub returns : goal.returns
returns c =
    let xs = c.args.closed.now in
    sym (sym (turn_start xs) ∙ c.loop-number.invariant ∙ turn_end xs c.loop-number.number-index c.loop-number.last (omega arith))
