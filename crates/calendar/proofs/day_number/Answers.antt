use Rattle.numbers.proofs.Words.{◌+◌, ◌<◌, ◌^◌, arith}
use Rattle.rules.specs.Calendar.{day_number}
use Rattle.calendar_laws.proofs.Years.{years_most}
use Rattle.calendar_laws.proofs.Months.{months_most}
use Rattle.calendar.proofs.day_number.Goals as goal
use Rattle.calendar.proofs.day_number.Goals.{After-days_before_month-months}

-- the days of the years and months before are far below 2^64
most : (c : After-days_before_month-months) → c.days_before_year-years.result + c.days_before_month-months.result < 2 ^ 42
most c = omega (arith, c.days_before_year-years.ensures, c.days_before_month-months.ensures, years_most c.args.date.year, months_most c.args.date.year c.args.date.month, c.well_formed)

pub overflow_add-result : goal.overflow_add-result
overflow_add-result c = omega (arith, most c)

pub overflow_add-result-2 : goal.overflow_add-result-2
overflow_add-result-2 c = omega (arith, most (goal.at.overflow_add-result-2 c).After-days_before_month-months, c.from.ensures, c.saturating_sub.ensures)

pub returns : goal.returns
unfolding day_number
returns c = rw (c.days_before_year-years.ensures, c.days_before_month-months.ensures, c.from.ensures, c.saturating_sub.ensures)
