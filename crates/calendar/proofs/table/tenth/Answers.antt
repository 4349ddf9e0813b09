use Rattle.numbers.proofs.Words.{ℕ, ◌-◌, ◌≡◌, true, ap, ◌∙◌, List, [], get_or, entry}
use Rattle.numbers.proofs.Tests.{failed, passed}
use Rattle.rules.specs.Calendar.{in_thirty_years}
use Rattle.calendar_laws.proofs.Tenths.{tenth_entry, tenth_outside}
use Rattle.calendar.proofs.table.tenth.Goals as goal
use Rattle.calendar.proofs.table.tenth.Goals.{Else-not-in_thirty_years}

-- past the test, year and month are the table's
inside : (c : Else-not-in_thirty_years) → in_thirty_years c.args.year c.args.month ≡ true
inside c = passed c.in_thirty_years.ensures c.if-not-in_thirty_years.false-raw

pub returns-then-not-in_thirty_years : goal.returns-then-not-in_thirty_years
returns-then-not-in_thirty_years c = tenth_outside c.args.year c.args.month (failed c.in_thirty_years.ensures c.if-not-in_thirty_years.true-raw)

pub returns : goal.returns
returns c =
    let year = c.args.year in
    let month = c.args.month in
    ap (λ (table : List (List ℕ)). entry (get_or table (year - 2021) []) (month - 1)) c.tenths-table.ensures
    ∙ tenth_entry year month (inside c.before.before)
