use Rattle.numbers.proofs.Words.{ℕ, ◌≡◌, refl, ap, ◌∙◌, Bool, true, false, cond, [], get_or}
use mir.Val.{bool_byte}
use Rattle.rules.specs.Calendar.{month_rows, row_of}
use Rattle.calendar.proofs.row_of.Goals as goal

-- a test as the number of a row
row_number : (t : Bool) → bool_byte t ≡ cond t 1 0
row_number true = refl
row_number false = refl

pub returns : goal.returns
unfolding row_of month_rows
returns c = ap (λ (row : ℕ). get_or month_rows row []) (row_number c.leap-row.result ∙ ap (λ (t : Bool). cond t 1 0) c.leap-row.ensures)
