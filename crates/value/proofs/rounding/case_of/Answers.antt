-- By the half of the divisor, cut off and with the rest of an odd one: the remainder's double lies below the divisor, at it or above it.
use Rattle.numbers.proofs.Words.{arith}
use Rattle.rules.specs.declared.rounding.Case.TheVariants.{BelowHalf, AtHalf, AboveHalf}
use Rattle.rules.specs.Rounding.{Lies}
use Rattle.value_laws.proofs.Rules.{case_alone}
use Rattle.value.proofs.rounding.case_of.Goals as goal

pub returns-then-remainder-above : goal.returns-then-remainder-above
unfolding Lies
returns-then-remainder-above c = case_alone BelowHalf _ _ (omega arith)

pub returns-then-remainder-below : goal.returns-then-remainder-below
unfolding Lies
returns-then-remainder-below c = case_alone AtHalf _ _ (omega arith)

pub returns : goal.returns
unfolding Lies
returns c = case_alone AboveHalf _ _ (omega arith)
