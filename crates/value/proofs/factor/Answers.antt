use Rattle.rules.specs.Value.{factor}
use Rattle.value.proofs.factor.Goals as goal

pub returns : goal.returns
unfolding factor
returns c = c.rounded.ensures
