use Rattle.numbers.proofs.Words.{arith, refl, ◌∙◌, replicate}
use Rattle.tenths.proofs.Laws.{table_length, table_whole}
use Rattle.tenths.proofs.printed.Goals as goal

pub years-requires : goal.years-requires
years-requires c = omega (arith, table_length)

pub returns : goal.returns
returns c = c.years.ensures ∙ table_whole (replicate 720 0) refl
