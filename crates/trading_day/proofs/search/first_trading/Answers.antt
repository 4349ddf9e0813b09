use Rattle.numbers.proofs.Words.{ℕ, List, arith, ◌≡◌, ◌∙◌, not, true}
use Rattle.rules.specs.Words.{ascending, ◌≤◌}
use Rattle.rules.specs.declared.dates.{Date.Date}
use Rattle.rules.specs.Calendar.{dated}
use Rattle.rules.specs.LastTradingDay.{trading}
use Rattle.trading_day.proofs.Laws.Walk.{Given, walk_start, walk_stop, walk_next, walk_end, weekday_most, year_most, trading_now}
use Rattle.trading_day.proofs.search.first_trading.Goals as goal
use Rattle.trading_day.proofs.search.first_trading.Goals.{After-shut}

given : (start : Date) (closed : List ℕ) → (dated start ≡ true) × (start.year ≤ 2050) × (ascending closed ≡ true) → Given start closed
given start closed h = record { in_calendar = h.0; in_years = h.1; in_turn_lem = h.2 }

-- whether the date is a trading day, once the test is computed
tested : (c : After-shut) → trading c.args.closed.now c.loop.date ≡ not c.shut.result
tested c = trading_now (given _ _ c.requires) c.loop.invariant c.number_of-number.ensures c.passed-at.ensures c.shut.ensures

pub loop-init : goal.loop-init
loop-init c = walk_start _ _ c.weekday-weekday.ensures

pub returns-then-not-shut : goal.returns-then-not-shut
returns-then-not-shut c = walk_stop (given _ _ c.requires) c.loop.invariant (omega arith) (tested (goal.at.returns-then-not-shut c).After-shut ∙ c.if-not-shut.true-raw)

pub next_day-date-requires : goal.next_day-date-requires
next_day-date-requires c = omega (arith, year_most (given _ _ c.requires) c.loop.invariant)

pub next_weekday-weekday-requires : goal.next_weekday-weekday-requires
next_weekday-weekday-requires c = omega (arith, c.loop.invariant.named, weekday_most c.loop.date)

pub loop-preserved : goal.loop-preserved
loop-preserved c =
    walk_next (given _ _ c.requires) c.loop.invariant c.number_of-number.ensures c.passed-at.ensures (omega arith) (tested (goal.at.loop-preserved c).After-shut ∙ c.if-not-shut.false-raw) c.next_day-date.ensures c.next_weekday-weekday.ensures

pub returns : goal.returns
returns c = walk_end (given _ _ c.requires) c.loop.invariant (omega arith)
