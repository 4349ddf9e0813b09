-- The byte order is a strict total order on strings of equal length, and `same` is their equality.
use Rattle.numbers.proofs.Words.{ℕ, ◌+◌, ◌≤◌, ◌<◌, arith, ◌≡◌, refl, sym, ap₂, ◌∙◌, ◌⊎◌, inl, inr, ⊎_elim, Bool, true, false, ◌&&◌, ◌||◌, false≢true, List, [], ◌∷◌, ltb, eqb, length, drop, drop_of_length-le, ltb-true, ltb-false, eqb-true, lt-ltb, le-ltb, eq-eqb, ne_eqb, same, before}
use Rattle.numbers.proofs.Lists.{Has, from_here}
use Rattle.numbers.proofs.Tests.{eqb_sym, and_left, and_right, or_cases, or_left, or_right}

pub same_eq : (xs ys : List ℕ) → same xs ys ≡ true → xs ≡ ys
unfolding same
same_eq [] [] e = refl
same_eq [] (y ∷ ys) e = absurd (false≢true e)
same_eq (x ∷ xs) [] e = absurd (false≢true e)
same_eq (x ∷ xs) (y ∷ ys) e =
    ap₂ ◌∷◌ (eqb-true x y (and_left (eqb x y) (same xs ys) e)) (same_eq xs ys (and_right (eqb x y) (same xs ys) e))

pub same_self : (xs : List ℕ) → same xs xs ≡ true
unfolding same
same_self [] = refl
same_self (x ∷ xs) = simp (eq-eqb x x refl, same_self xs)

pub same_sym : (xs ys : List ℕ) → same xs ys ≡ same ys xs
unfolding same
same_sym [] [] = refl
same_sym [] (y ∷ ys) = refl
same_sym (x ∷ xs) [] = refl
same_sym (x ∷ xs) (y ∷ ys) = ap₂ ◌&&◌ (eqb_sym x y) (same_sym xs ys)

-- what the order's test says at the first bytes x and y, where t is the test on the rest
split : (x y : ℕ) (t : Bool) → (ltb x y || eqb x y && t) ≡ true → (x < y) ⊎ ((x ≡ y) × (t ≡ true))
split x y t e =
    ⊎_elim (λ p. inl (ltb-true x y p)) (λ p. inr (eqb-true x y (and_left _ t p), and_right (eqb x y) t p))
    (or_cases (ltb x y) (eqb x y && t) e)

lower : (x y : ℕ) (t : Bool) → x < y → (ltb x y || eqb x y && t) ≡ true
lower x y t h = simp (lt-ltb x y h)

level : (x y : ℕ) (t : Bool) → x ≡ y → t ≡ true → (ltb x y || eqb x y && t) ≡ true
level x y t h e = simp (le-ltb x y (omega arith), eq-eqb x y h, e)

pub before_self : (xs : List ℕ) → before xs xs ≡ false
unfolding before
before_self [] = refl
before_self (x ∷ xs) = simp (le-ltb x x (omega arith), eq-eqb x x refl, before_self xs)

pub before_trans : (xs ys zs : List ℕ) → before xs ys ≡ true → before ys zs ≡ true → before xs zs ≡ true
unfolding before
before_trans [] ys zs p q = absurd (false≢true p)
before_trans (x ∷ xs) [] zs p q = absurd (false≢true p)
before_trans (x ∷ xs) (y ∷ ys) [] p q = absurd (false≢true q)
before_trans (x ∷ xs) (y ∷ ys) (z ∷ zs) p q =
    ⊎_elim
    (λ a. ⊎_elim (λ b. lower x z (before xs zs) (omega arith)) (λ b. lower x z (before xs zs) (omega arith)) (split y z _ q))
    (λ a.
    ⊎_elim
    (λ b. lower x z (before xs zs) (omega arith))
    (λ b. level x z (before xs zs) (a.0 ∙ b.0) (before_trans xs ys zs a.1 b.1))
    (split y z _ q))
    (split x y _ p)

pub before-total : (xs ys : List ℕ) → length xs ≡ length ys → before xs ys ≡ false → before ys xs ≡ false → xs ≡ ys
unfolding before
before-total [] [] l p q = refl
before-total [] (y ∷ ys) l p q = absurd (omega arith)
before-total (x ∷ xs) [] l p q = absurd (omega arith)
before-total (x ∷ xs) (y ∷ ys) l p q =
    let h : x ≡ y = omega (arith, ltb-false x y (or_left _ (eqb x y && before xs ys) p), ltb-false y x (or_left _ (eqb y x && before ys xs) q)) in
    ap₂ ◌∷◌ h
    (before-total xs ys (omega arith)
    (rw (eq-eqb x y h) at (or_right (ltb x y) _ p))
    (rw (eq-eqb y x (sym h)) at (or_right (ltb y x) _ q)))

-- one byte after the other, as a loop over two strings goes
pub same_end : (xs ys : List ℕ) (i : ℕ) → length xs ≤ i → length ys ≤ i → same (drop i xs) (drop i ys) ≡ true
unfolding same
same_end xs ys i h k = rw (drop_of_length-le xs h, drop_of_length-le ys k)

module _ {xs ys : List ℕ} {i x y : ℕ} (h : Has xs i x) (k : Has ys i y) where
  pub same_next : x ≡ y → same (drop i xs) (drop i ys) ≡ same (drop (i + 1) xs) (drop (i + 1) ys)
  unfolding same
  same_next e = rw (from_here h, from_here k, eq-eqb x y e)

  pub same_stop : (x ≡ y → ⊥) → same (drop i xs) (drop i ys) ≡ false
  unfolding same
  same_stop e = rw (from_here h, from_here k, ne_eqb x y e)

  pub before_next : x ≡ y → before (drop i xs) (drop i ys) ≡ before (drop (i + 1) xs) (drop (i + 1) ys)
  unfolding before
  before_next e = rw (from_here h, from_here k, le-ltb x y (omega (arith, e)), eq-eqb x y e)

  pub before_lower : x < y → before (drop i xs) (drop i ys) ≡ true
  unfolding before
  before_lower e = rw (from_here h, from_here k, lt-ltb x y e)

  pub before_higher : y < x → before (drop i xs) (drop i ys) ≡ false
  unfolding before
  before_higher e = rw (from_here h, from_here k, le-ltb x y (omega (arith, e)), ne_eqb x y (λ s. absurd (omega (arith, e, s))))

pub before_end : (xs ys : List ℕ) (i : ℕ) → length xs ≤ i → before (drop i xs) ys ≡ false
unfolding before
before_end xs ys i h = rw (drop_of_length-le xs h)
