use Rattle.numbers.proofs.Words.{◌≡◌}
use Rattle.calendar_laws.proofs.Months.{first_months}
use Rattle.calendar.proofs.days_before_month.Given as goal

abbrev pub invariant-loop-days : goal.invariant-loop-days
invariant-loop-days l = l.before ≡ first_months l.year l.days-index
