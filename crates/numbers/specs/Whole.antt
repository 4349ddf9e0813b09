-- Numbers within limits, as tests.
use Rattle.std.specs.Prelude.{ℕ, Bool, ◌&&◌, leb, ℤ, nat_abs}

-- n lies from low to high
abbrev pub between : ℕ → ℕ → ℕ → Bool
between low high n = leb low n && leb n high

-- z lies within ±limit
abbrev pub within : ℤ → ℕ → Bool
within z limit = leb (nat_abs z) limit
