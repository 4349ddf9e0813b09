use Rattle.numbers.proofs.Words.{refl, counted, gathered, same}
use Rattle.rules.specs.Calendar.{leap, month_rows, row_of, days_before_month}
use Rattle.calendar_laws.proofs.Tenths.{table_follows}
use Rattle.calendar.proofs.table.tenths.Goals as goal

-- the test over the whole table, computed
pub returns : goal.returns
unfolding leap month_rows row_of days_before_month counted gathered same
returns c = table_follows _ refl refl
