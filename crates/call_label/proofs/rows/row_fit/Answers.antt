use Rattle.numbers.proofs.Words.{refl}
use Rattle.rules.specs.Label.{row_fit}
use Rattle.call_label.proofs.rows.row_fit.Goals as goal

pub returns : goal.returns
unfolding row_fit
returns c = refl
