use Rattle.numbers.proofs.Words.{refl, counted}
use Rattle.call_label.proofs.lengths.largest.Goals as goal

-- the table, computed
pub returns : goal.returns
unfolding counted
returns c = refl
