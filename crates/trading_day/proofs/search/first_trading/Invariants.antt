use Rattle.trading_day.proofs.Laws.Walk.{Walk}
use Rattle.trading_day.proofs.search.first_trading.Given as goal

abbrev pub invariant-loop : goal.invariant-loop
invariant-loop l = Walk l.closed l.initial.date l.date l.weekday l.at l.counter
