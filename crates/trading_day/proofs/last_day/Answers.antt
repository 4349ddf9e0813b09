use Rattle.numbers.proofs.Words.{arith, sym}
use Rattle.calendar_laws.proofs.Tenths.{within_table}
use Rattle.calendar_laws.proofs.Search as Search
use Rattle.trading_day.proofs.last_day.Goals as goal

pub first_trading-requires : goal.first_trading-requires
first_trading-requires c =
    let args = c.args in
    let given = Search.accepted args.year args.month args.closed.now (sym c.in_ok-check.ensures) in
    (Search.early_dated args.year args.month _ given.month_good (omega arith) (omega arith), (within_table args.year args.month given.month_good).to, given.in_turn_lem)
