use Rattle.numbers.proofs.Words.{◌≡◌, refl, ap, ◌∙◌, arith, length, take, get_or-take, length-take, counted, entry, gathered}
use Rattle.rules.specs.Calendar.{days_before_month}
use Rattle.calendar_laws.proofs.Years.{months_twelve}
use Rattle.calendar_laws.proofs.Months.{first_months, first_most, month_more, months_asked}
use Rattle.calendar.proofs.days_before_month.Goals as goal
use Rattle.calendar.proofs.days_before_month.Goals.{After-min-months}

-- as many months as are asked, and are in a year
months : (c : After-min-months) → length (take c.min-months.result c.row_of-row.result) ≡ c.min-months.result
months c = omega (arith, length-take c.min-months.result c.row_of-row.result, c.min-months.ensures, ap length c.row_of-row.ensures, months_twelve c.args.year)

pub loop-days-init : goal.loop-days-init
unfolding counted gathered
loop-days-init c = refl

pub overflow_add-before : goal.overflow_add-before
overflow_add-before c =
    let added = c.loop-days.invariant in
    let at = (goal.at.overflow_add-before c).After-min-months in
    omega (arith, months at, c.min-months.ensures, first_most c.args.year c.loop-days.days-index (omega (arith, months at, c.min-months.ensures, c.loop-days-test.true)))

pub loop-days-preserved : goal.loop-days-preserved
loop-days-preserved c =
    let i = c.loop-days.days-index in
    let within = months (goal.at.loop-days-preserved c).After-min-months in
    let here = c.from-before.ensures ∙ get_or-take c.min-months.result c.row_of-row.result i 0 (omega (arith, within, c.loop-days-test.true)) ∙ ap (λ row. entry row i) c.row_of-row.ensures in
    omega (arith, c.loop-days.invariant, here, month_more c.args.year i)

pub returns : goal.returns
unfolding days_before_month
returns c =
    let all : c.loop-days.days-index ≡ c.min-months.result = omega (arith, months (goal.at.returns c).After-min-months, c.loop-days-test.false, c.loop-days.auto.days-index-end) in
    c.loop-days.invariant ∙ months_asked c.args.year c.saturating_sub.result _ (all ∙ c.min-months.ensures) ∙ ap (first_months c.args.year) c.saturating_sub.ensures
