use Rattle.numbers.proofs.Words.{refl}
use Rattle.rules.specs.Calls.{new_section}
use Rattle.call_section.proofs.new_section.Goals as goal

pub returns : goal.returns
unfolding new_section
returns c = refl
