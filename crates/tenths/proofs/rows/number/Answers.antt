use Rattle.numbers.proofs.Words.{◌∙◌, arith}
use Rattle.tenths.proofs.Laws.{digit_length}
use Rattle.tenths.proofs.rows.number.Goals as goal

pub number-requires : goal.number-requires
number-requires c = omega (arith, c.requires, digit_length _ (c.from.ensures ∙ c.weekday-weekday.ensures))
