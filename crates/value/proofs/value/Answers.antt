-- A product that fits 64 bits: a hundred-thousandth of it fits a signed number.
use Rattle.numbers.proofs.Words.{ℕ, ◌<◌, ◌^◌, arith, lit<, ap, ◌∙◌, ℤ, w64, to_z_pos, lt_of_le_of_lt}
use Rattle.rules.specs.Rounding.{rounded}
use Rattle.rules.specs.Value.{value, value_of}
use Rattle.value_laws.proofs.Rounding.{rounding, rounded_most}
use Rattle.value.proofs.value.Goals as goal
use Rattle.value.proofs.value.Goals.{After-rounded-v}

result_limit : (c : After-rounded-v) → c.rounded-v.result < 2 ^ 63
result_limit c = rw c.rounded-v.ensures (lt_of_le_of_lt (rounded_most rounding _ _ 2_000_000_000_000_000 (lit< tt) (omega arith)) (omega arith))

pub overflow_cast-kopecks : goal.overflow_cast-kopecks
overflow_cast-kopecks c = record { sfits = result_limit c }

pub returns : goal.returns
unfolding value value_of
returns c =
    ap (λ (z : ℤ). record { 0 = z })
    (to_z_pos w64 (result_limit c) ∙ ap ℤ.pos (c.rounded-v.ensures ∙ ap (λ (n : ℕ). rounded n 100_000) c.multiplied.ensures))
