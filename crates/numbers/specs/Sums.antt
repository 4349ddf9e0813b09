-- Sums over lists, of natural and of whole numbers.
use Rattle.std.specs.Prelude.{ℕ, ◌+◌, Bool, cond, List, [], ◌∷◌, ℤ, pos, ◌+ℤ◌}
use Rattle.numbers.specs.Lists.{listed}

-- the entries of a list put together, from the first one on, and `none` for no entry
unfoldable pub gathered : {A : Type 0} → (A → A → A) → A → List A → A
gathered join none [] = none
gathered join none (x ∷ xs) = join x (gathered join none xs)

abbrev pub total : List ℕ → ℕ
total = gathered ◌+◌ 0

abbrev pub total_ℤ : List ℤ → ℤ
total_ℤ = gathered ◌+ℤ◌ (pos 0)

-- how many of the numbers below n pass a test
unfoldable pub many : ℕ → (ℕ → Bool) → ℕ
many n test = total (listed n (λ (i : ℕ). cond (test i) 1 0))

-- every definition above, unfolded at once
unfoldable pub computed : Unit {0}
unfolding gathered many
computed = tt
