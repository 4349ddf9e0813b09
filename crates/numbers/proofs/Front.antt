-- The front of a local list: lent, filled by a call, and read again.
use Rattle.numbers.proofs.Words.{ℕ, zero, suc, ◌≤◌, not-suc-le-zero, le_of_suc-le-suc, arith, ◌≡◌, refl, ap, ◌∙◌, List, ◌∷◌, ◌++◌, length, take, drop, replicate, length-append, length-take-le, take_at}

-- the front of a list of noughts
pub noughts_front : (n m : ℕ) → n ≤ m → take {A = ℕ} n (replicate m 0) ≡ replicate n 0
noughts_front zero m h = refl
noughts_front (suc n) zero h = absurd (not-suc-le-zero h)
noughts_front (suc n) (suc m) h = ap (λ (ns : List ℕ). 0 ∷ ns) (noughts_front n m (le_of_suc-le-suc h))

-- the first n entries are those that a call left there
pub record Front {A : Type 0} (n : ℕ) (was front : List A) : Type 0 where
  pub full : length front ≡ n
  pub is : take n (front ++ drop n was) ≡ front
  pub fits : n ≤ length (front ++ drop n was)
  pub long : length (take n (front ++ drop n was)) ≡ n

pub front_of : {A : Type 0} (n : ℕ) (was front : List A) → n ≤ length was → length front ≡ length (take n was) → Front n was front
front_of n was front few kept =
    let full : length front ≡ n = kept ∙ length-take-le n was few in
    let is = take_at front (drop n was) n full in
    record { full = full; is = is; fits = omega (arith, length-append front (drop n was), full); long = ap length is ∙ full }
