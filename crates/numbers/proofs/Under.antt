-- What is read under a test: x where the test passes, and 0 where it does not.
use Rattle.numbers.proofs.Words.{ℕ, ◌+◌, ◌≤◌, ◌<◌, arith, ◌≡◌, refl, ap, Bool, true, false, cond, ◌&&◌, ◌||◌, ltb}

-- it is at most x
pub under_within : (t : Bool) (x : ℕ) → cond t x 0 ≤ x
under_within true x = omega arith
under_within false x = omega arith

-- under a test that follows from another, no less
pub under_follows : (s t : Bool) (x : ℕ) → (s ≡ true → t ≡ true) → cond s x 0 ≤ cond t x 0
under_follows true t x follows = omega (arith, ap (λ (r : Bool). cond r x 0) (follows refl))
under_follows false t x follows = omega arith

-- where the test passes, x is y, or x is 0
pub under_same : (t : Bool) (x y : ℕ) → (t ≡ true → x ≡ y) → cond t x 0 ≡ cond t y 0
under_same true x y e = e refl
under_same false x y e = refl

pub under_none : (t : Bool) (x : ℕ) → (t ≡ true → x ≡ 0) → cond t x 0 ≡ 0
under_none true x e = e refl
under_none false x e = refl

-- of a sum
pub under_sum : (t : Bool) (x y z : ℕ) → x + y ≡ z → cond t x 0 + cond t y 0 ≡ cond t z 0
under_sum true x y z e = e
under_sum false x y z e = refl

-- under two tests, in either order
pub under_two : (s t : Bool) (x : ℕ) → cond (s && t) x 0 ≡ cond t (cond s x 0) 0
under_two true t x = refl
under_two false true x = refl
under_two false false x = refl

pub under_swapped : (s t : Bool) (x : ℕ) → cond s (cond t x 0) 0 ≡ cond t (cond s x 0) 0
under_swapped true t x = refl
under_swapped false true x = refl
under_swapped false false x = refl

-- under one of two tests
pub under_either : (s t : Bool) (x : ℕ) → cond (s || t) x 0 ≤ cond s x 0 + cond t x 0
under_either true t x = omega arith
under_either false t x = omega arith

-- it is above 0 where the test passes and x is
pub above_under : (t : Bool) (x : ℕ) → ltb 0 (cond t x 0) ≡ (t && ltb 0 x)
above_under true x = refl
above_under false x = refl

pub above_read : (t : Bool) (x : ℕ) → 0 < cond t x 0 → (t ≡ true) × (0 < x)
above_read true x h = (refl, h)
above_read false x h = absurd (omega (arith, h))
