-- The bridge from ℤ to ℕ: `omega` does not read ℤ, so a whole number is seen as its two sides in ℕ.
-- A linear identity is `ext _ _ (omega (arith, sum x y, ..))`, a range is a bound on the sides.
use Rattle.numbers.proofs.Words.{ℕ, zero, suc, ◌+◌, ◌-◌, ◌*◌, ◌≤◌, ◌<◌, ◌^◌, add-zero, zero-add, mul-le-mul, arith, ◌≡◌, refl, sym, ap, ap₂, ◌∙◌, Bool, true, false, not, cond, true≢false, ◌⊎◌, inl, inr, ⊎_elim, leb, ltb, leb-suc-suc, ℤ, pos, negsuc, neg_ℤ, nat_abs, sub_ℕ, ◌+ℤ◌, ◌-ℤ◌, ◌*ℤ◌, *ℤ_comm, *ℤ-negsuc, +ℤ-neg_ℤ_cancel, -ℤ-+ℤ_cancel, neg_ℤ-+ℤ, mag, le_z, lt_z, ltb-true, ltb-false, leb-true, lt-ltb, le-ltb, le-leb, lt-leb, Width, w64, SFits, hbits, to_z, of_z, to_z-of_z}
use Rattle.numbers.proofs.Tests.{leb_ltb, ltb_as}

-- the side above 0, and the side below it
abbrev pub plus : ℤ → ℕ
plus (pos n) = n
plus (negsuc n) = 0

abbrev pub minus : ℤ → ℕ
minus (pos n) = 0
minus (negsuc n) = suc n

-- two whole numbers are equal where their sides differ by the same
pub ext : (x y : ℤ) → plus x + minus y ≡ plus y + minus x → x ≡ y
ext (pos a) (pos b) h = ap pos (omega arith)
ext (pos a) (negsuc b) h = absurd (omega arith)
ext (negsuc a) (pos b) h = absurd (omega arith)
ext (negsuc a) (negsuc b) h = ap negsuc (omega arith)

-- what `omega` is told of z = x - y: the difference, and that no side is larger than what it comes from
pub record Sides (z : ℤ) (x y : ℕ) : Type 0 where
  pub eq : plus z + y ≡ minus z + x
  pub up : plus z ≤ x
  pub down : minus z ≤ y

less : (a b : ℕ) → Sides (sub_ℕ a b) a b
less a b = go (ltb a b) refl
  where
    go : (t : Bool) → ltb a b ≡ t → Sides (cond t (negsuc (b - suc a)) (pos (a - b))) a b
    go true e = let h : a < b = ltb-true a b e in omega arith
    go false e = let h : b ≤ a = ltb-false a b e in omega arith

pub sum : (x y : ℤ) → Sides (x +ℤ y) (plus x + plus y) (minus x + minus y)
sum (pos a) (pos b) = omega arith
sum (pos a) (negsuc b) = let s = less a (suc b) in omega arith
sum (negsuc a) (pos b) = let s = less b (suc a) in omega arith
sum (negsuc a) (negsuc b) = omega arith

pub negated : (z : ℤ) → (plus (neg_ℤ z) ≡ minus z) × (minus (neg_ℤ z) ≡ plus z)
negated (pos zero) = (refl, refl)
negated (pos (suc n)) = (refl, refl)
negated (negsuc n) = (refl, refl)

pub difference : (x y : ℤ) → Sides (x -ℤ y) (plus x + minus y) (minus x + plus y)
difference x y = omega (arith, sum x (neg_ℤ y), negated y)

-- a whole number times a natural one: each side is multiplied
pub product : (z : ℤ) (v : ℕ) → (plus (z *ℤ pos v) ≡ plus z * v) × (minus (z *ℤ pos v) ≡ minus z * v)
product (pos n) v = omega arith
product (negsuc n) v = omega (arith, negated (pos (suc n * v)))

-- the size, and the machine's measure of it
pub size : (z : ℤ) → nat_abs z ≡ plus z + minus z
size (pos n) = omega arith
size (negsuc n) = omega arith

size_negated : (z : ℤ) → nat_abs (neg_ℤ z) ≡ nat_abs z
size_negated z = omega (arith, size z, size (neg_ℤ z), negated z)

-- the size of a product
pub size_product : (x y : ℤ) → nat_abs (x *ℤ y) ≡ nat_abs x * nat_abs y
size_product (pos a) (pos b) = refl
size_product (pos a) (negsuc b) = size_negated (pos (a * suc b))
size_product (negsuc a) (pos b) = size_negated (pos (suc a * b))
size_product (negsuc a) (negsuc b) = refl

-- a whole number fits a signed width where its sides do
pub sfits : (w : Width) (z : ℤ) → plus z < 2 ^ hbits w → minus z ≤ 2 ^ hbits w → SFits w z
sfits w (pos n) up down = record { sfits = up }
sfits w (negsuc n) up down = record { sfits = down }

pub sfits_size : (w : Width) (z : ℤ) → nat_abs z < 2 ^ hbits w → SFits w z
sfits_size w z h = sfits w z (omega (arith, size z)) (omega (arith, size z))

-- a signed number that is stored as bits is read back as itself
pub read_back : (w : Width) (z : ℤ) → mag z < 2 ^ hbits w → to_z w (of_z w z) ≡ z
read_back w z h = to_z-of_z (record { sfits = h })

-- products spread over sums and differences
sum_product_up : (x y : ℤ) (v : ℕ) → (x +ℤ y) *ℤ pos v ≡ x *ℤ pos v +ℤ y *ℤ pos v
sum_product_up x y v =
    ext _ _
    (omega (
      arith,
      ap (λ (n : ℕ). n * v) (sum x y).eq,
      sum (x *ℤ pos v) (y *ℤ pos v),
      product x v,
      product y v,
      product (x +ℤ y) v,
    ))

pub sum_product : (x y z : ℤ) → (x +ℤ y) *ℤ z ≡ x *ℤ z +ℤ y *ℤ z
sum_product x y (pos v) = sum_product_up x y v
sum_product x y (negsuc n) =
    *ℤ-negsuc (x +ℤ y) n ∙ ap neg_ℤ (sum_product_up x y (suc n)) ∙ neg_ℤ-+ℤ (x *ℤ pos (suc n)) (y *ℤ pos (suc n)) ∙ sym (ap₂ ◌+ℤ◌ (*ℤ-negsuc x n) (*ℤ-negsuc y n))

pub product_difference : (z x y : ℤ) → z *ℤ (x -ℤ y) ≡ z *ℤ x -ℤ z *ℤ y
product_difference z x y =
    let whole : (x -ℤ y) *ℤ z +ℤ y *ℤ z ≡ x *ℤ z = sym (sum_product (x -ℤ y) y z) ∙ ap (λ (t : ℤ). t *ℤ z) (-ℤ-+ℤ_cancel x y) in
    rw (*ℤ_comm z (x -ℤ y), *ℤ_comm z x, *ℤ_comm z y) (sym (+ℤ-neg_ℤ_cancel ((x -ℤ y) *ℤ z) (y *ℤ z)) ∙ ap (λ (t : ℤ). t -ℤ y *ℤ z) whole)

-- and over a change of sign
negated_product_up : (z : ℤ) (v : ℕ) → neg_ℤ z *ℤ pos v ≡ neg_ℤ (z *ℤ pos v)
negated_product_up z v = ext _ _ (omega (arith, negated z, negated (z *ℤ pos v), product z v, product (neg_ℤ z) v, ap (λ (n : ℕ). n * v) (negated z).0, ap (λ (n : ℕ). n * v) (negated z).1))

pub negated_product : (z v : ℤ) → neg_ℤ z *ℤ v ≡ neg_ℤ (z *ℤ v)
negated_product z (pos v) = negated_product_up z v
negated_product z (negsuc n) = *ℤ-negsuc (neg_ℤ z) n ∙ ap neg_ℤ (negated_product_up z (suc n) ∙ sym (*ℤ-negsuc z n))

-- the machine's tests of order, as tests on the sides
pub le_z_sides : (x y : ℤ) → le_z x y ≡ leb (plus x + minus y) (plus y + minus x)
le_z_sides (pos a) (pos b) = simp add-zero
le_z_sides (pos a) (negsuc b) = sym (lt-leb (a + suc b) (0 + 0) (omega arith))
le_z_sides (negsuc a) (pos b) = sym (le-leb (0 + 0) (b + suc a) (omega arith))
le_z_sides (negsuc a) (negsuc b) = sym (simp zero-add (leb-suc-suc b a))

pub lt_z_sides : (x y : ℤ) → lt_z x y ≡ ltb (plus x + minus y) (plus y + minus x)
lt_z_sides (pos a) (pos b) = simp add-zero
lt_z_sides (pos a) (negsuc b) = sym (le-ltb (a + suc b) (0 + 0) (omega arith))
lt_z_sides (negsuc a) (pos b) = sym (lt-ltb (0 + 0) (b + suc a) (omega arith))
lt_z_sides (negsuc a) (negsuc b) = sym (simp zero-add (leb-suc-suc (suc b) a))

-- one of the two sides is 0
one_side : (z : ℤ) → (plus z ≡ 0) ⊎ (minus z ≡ 0)
one_side (pos n) = inr refl
one_side (negsuc n) = inl refl

-- a difference of natural numbers: its size, and its sign
module _ (x y : ℕ) where
  pub difference_size : nat_abs (pos x -ℤ pos y) ≡ (x - y) + (y - x)
  difference_size =
      let z = pos x -ℤ pos y in
      ⊎_elim (λ e. omega (arith, size z, difference (pos x) (pos y), e)) (λ e. omega (arith, size z, difference (pos x) (pos y), e)) (one_side z)

  pub difference_above : lt_z (pos 0) (pos x -ℤ pos y) ≡ ltb y x
  difference_above =
      let z = pos x -ℤ pos y in
      lt_z_sides (pos 0) z ∙ ltb_as (0 + minus z) (plus z + 0) y x (λ h. omega (arith, difference (pos x) (pos y), h)) (λ h. omega (arith, difference (pos x) (pos y), h))

  pub difference_below : lt_z (pos x -ℤ pos y) (pos 0) ≡ ltb x y
  difference_below =
      let z = pos x -ℤ pos y in
      lt_z_sides z (pos 0) ∙ ltb_as (plus z + 0) (0 + minus z) x y (λ h. omega (arith, difference (pos x) (pos y), h)) (λ h. omega (arith, difference (pos x) (pos y), h))

-- which case of ℤ a number is, by the machine's test against 0
pub negative : (z : ℤ) → lt_z z (pos 0) ≡ true → (n : ℕ) × (z ≡ negsuc n)
negative (pos a) e = absurd (omega (arith, ltb-true a 0 e))
negative (negsuc n) e = (n, refl)

pub positive : (z : ℤ) → lt_z z (pos 0) ≡ false → (n : ℕ) × (z ≡ pos n)
positive (pos n) e = (n, refl)
positive (negsuc n) e = absurd (true≢false e)

-- so a test of what is read is a test of what was stored
pub read_as : {A : Type 0} (f : ℤ → A) (z : ℤ) → mag z < 2 ^ 63 → f (to_z w64 (of_z w64 z)) ≡ f z
read_as f z h = ap f (read_back w64 z h)

-- within 0 is 0
pub within_zero : (z : ℤ) → leb (nat_abs z) 0 ≡ true → z ≡ pos 0
within_zero z e = ext _ _ (omega (arith, size z, leb-true (nat_abs z) 0 e))

pub le_z_lt_z : (x y : ℤ) → le_z x y ≡ not (lt_z y x)
le_z_lt_z x y = le_z_sides x y ∙ leb_ltb (plus x + minus y) (plus y + minus x) ∙ ap not (sym (lt_z_sides y x))

-- sums and differences of numbers within limits
module _ (x y : ℤ) {a b : ℕ} (h : nat_abs x ≤ a) (k : nat_abs y ≤ b) where
  pub sum_within : nat_abs (x +ℤ y) ≤ a + b
  sum_within = omega (arith, sum x y, size x, size y, size (x +ℤ y), h, k)

  pub difference_within : nat_abs (x -ℤ y) ≤ a + b
  difference_within = omega (arith, difference x y, size x, size y, size (x -ℤ y), h, k)

  pub product_within : nat_abs (x *ℤ y) ≤ a * b
  product_within = rw (size_product x y) (mul-le-mul h k)
