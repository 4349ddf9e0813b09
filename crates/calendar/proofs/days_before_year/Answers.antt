use Rattle.numbers.proofs.Words.{sym, ◌∙◌, ap}
use Rattle.calendar_laws.proofs.Years.{years_counted, before_year}
use Rattle.calendar.proofs.days_before_year.Goals as goal

pub returns : goal.returns
returns c = ap years_counted (c.from-years.ensures ∙ c.saturating_sub.ensures) ∙ sym (before_year c.args.year)
