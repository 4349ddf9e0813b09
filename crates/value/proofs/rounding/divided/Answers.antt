use Rattle.numbers.proofs.Words.{refl, div-zero, mod-zero}
use Rattle.rules.specs.Rounding.{divided}
use Rattle.value.proofs.rounding.divided.Goals as goal

pub returns-then-d-eq0 : goal.returns-then-d-eq0
unfolding divided
returns-then-d-eq0 c = rw (c.if-d-eq0.true, div-zero, mod-zero)

pub returns : goal.returns
unfolding divided
returns c = refl
