use Rattle.numbers.proofs.Words.{arith}
use Rattle.rules.specs.Rounding.{result_of}
use Rattle.value.proofs.rounding.result_of.Goals as goal

pub overflow_add-result : goal.overflow_add-result
unfolding result_of
overflow_add-result c = omega (arith, rw c.in-AtHalf.is at c.requires)

pub overflow_add-result-in-AboveHalf : goal.overflow_add-result-in-AboveHalf
unfolding result_of
overflow_add-result-in-AboveHalf c = omega (arith, rw c.in-AboveHalf.is at c.requires)

pub returns-in-BelowHalf : goal.returns-in-BelowHalf
unfolding result_of
returns-in-BelowHalf c = rw c.in-BelowHalf.is (omega arith)

pub returns-in-AtHalf : goal.returns-in-AtHalf
unfolding result_of
returns-in-AtHalf c = rw c.in-AtHalf.is (omega arith)

pub returns-in-AboveHalf : goal.returns-in-AboveHalf
unfolding result_of
returns-in-AboveHalf c = rw c.in-AboveHalf.is (omega arith)
