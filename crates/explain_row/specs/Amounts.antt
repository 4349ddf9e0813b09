-- Amounts as the explanation works them out: within what any contract comes to, the number itself, and 0 beyond.
use Rattle.std.specs.Prelude.{ℕ, cond, ℤ, pos, ◌-ℤ◌}
use Rattle.rules.specs.Words.{lt_z, within}

-- 1 where a number is below 0
abbrev pub sign_of : ℤ → ℕ
sign_of z = cond (lt_z z (pos 0)) 1 0

-- an amount less another
abbrev pub less_of : ℤ → ℤ → ℤ
less_of x y = cond (within x 4_000_000_000_000_000_000) (cond (within y 4_000_000_000_000_000_000) (x -ℤ y) (pos 0)) (pos 0)
