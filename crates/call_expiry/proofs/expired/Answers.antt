use Rattle.numbers.proofs.Words.{refl}
use Rattle.rules.specs.Expiry.Call.{after_expiry}
use Rattle.call_expiry.proofs.expired.Goals as goal

pub returns : goal.returns
unfolding after_expiry
returns c = refl
