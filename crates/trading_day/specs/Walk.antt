-- A walk over numbers that ascend: what is left of them at a number.
use Rattle.std.specs.Prelude.{ℕ, ◌≤◌, ◌≡◌, Bool, false, cond, List, [], ◌∷◌, length, drop, ltb, eqb}

-- the numbers from the first one on that is not below n
unfoldable pub not_below : ℕ → List ℕ → List ℕ
not_below n [] = []
not_below n (x ∷ xs) = cond (ltb x n) (not_below n xs) (x ∷ xs)

-- from a place on, those below n are passed, up to another place
pub record Passed (xs : List ℕ) (from n to : ℕ) : Type 0 where
  pub place : to ≤ length xs
  pub left : drop to xs ≡ not_below n (drop from xs)

-- n stands first
unfoldable pub starts_with : ℕ → List ℕ → Bool
starts_with n [] = false
starts_with n (x ∷ xs) = eqb n x
