use Rattle.numbers.proofs.Words.{refl, counted}
use Rattle.method_passes.proofs.register.none.Goals as goal

pub returns : goal.returns
unfolding counted
returns c = refl
