use Rattle.numbers.proofs.Words.{ℕ, arith, ◌≡◌, sym, ap, ◌∙◌, length, drop}
use Rattle.numbers.proofs.Lists.{has}
use Rattle.trading_day.specs.Walk.{not_below}
use Rattle.trading_day.proofs.Laws.Passed.{below_next, below_stop, below_end}
use Rattle.trading_day.proofs.closed.passed.Goals as goal

pub returns-then-number-date : goal.returns-then-number-date
returns-then-number-date c =
    let xs = c.args.closed.now in
    record { place = c.loop-at.invariant.0; left = sym (below_stop (has xs c.loop-at.at 0 (omega arith)) c.args.number c.if-number-date.true) ∙ c.loop-at.invariant.1 }

pub loop-at-preserved : goal.loop-at-preserved
loop-at-preserved c =
    let xs = c.args.closed.now in
    (omega arith, sym (below_next (has xs c.loop-at.at 0 (omega arith)) c.args.number c.if-number-date.false) ∙ c.loop-at.invariant.1)

pub returns : goal.returns
returns c =
    let xs = c.args.closed.now in
    let at_end : c.loop-at.at ≡ length xs = omega arith in
    record { place = omega arith; left = sym (below_end xs (length xs) c.args.number (omega arith)) ∙ ap (λ (k : ℕ). not_below c.args.number (drop k xs)) (sym at_end) ∙ c.loop-at.invariant.1 }
