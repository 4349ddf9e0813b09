use Rattle.numbers.proofs.Words.{arith, sym}
use Rattle.numbers.proofs.Lists.{has}
use Rattle.trading_day.proofs.Laws.Passed.{starts_here, starts_nowhere}
use Rattle.trading_day.proofs.closed.stands_at.Goals as goal

pub returns-then-at-closed : goal.returns-then-at-closed
returns-then-at-closed c =
    let start = c in
    sym (starts_here (has (start.args.closed.now) start.args.at 0 (omega arith)) start.args.number)

pub returns : goal.returns
returns c =
    let start = c in
    sym (starts_nowhere (start.args.closed.now) start.args.at start.args.number (omega arith))
