-- A walk over numbers that ascend: those below a number are passed, and the number is among all of them where it stands first of what is left.
use Rattle.numbers.proofs.Words.{ℕ, ◌+◌, ◌≤◌, ◌<◌, arith, ◌≡◌, refl, ap, ◌∙◌, Bool, true, false, cond, ◌||◌, or-false, List, [], ◌∷◌, length, drop, drop_of_length-le, ltb, eqb, ltb-true, ltb-false, lt-ltb, le-ltb, ne_eqb, some, ascending}
use Rattle.numbers.proofs.Tests.{both}
use Rattle.numbers.proofs.Lists.{Has, from_here}
use Rattle.trading_day.specs.Walk.{not_below, starts_with}

module _ {xs : List ℕ} {i x : ℕ} (here : Has xs i x) (n : ℕ) where
  pub below_next : x < n → not_below n (drop i xs) ≡ not_below n (drop (i + 1) xs)
  unfolding not_below
  below_next h = rw (from_here here, lt-ltb x n h)

  pub below_stop : n ≤ x → not_below n (drop i xs) ≡ drop i xs
  unfolding not_below
  below_stop h = rw (from_here here, le-ltb x n h)

  pub starts_here : starts_with n (drop i xs) ≡ eqb n x
  unfolding starts_with
  starts_here = rw (from_here here)

module _ (xs : List ℕ) (i n : ℕ) (past : length xs ≤ i) where
  pub below_end : not_below n (drop i xs) ≡ drop i xs
  unfolding not_below
  below_end = rw (drop_of_length-le xs past)

  pub starts_nowhere : starts_with n (drop i xs) ≡ false
  unfolding starts_with
  starts_nowhere = rw (drop_of_length-le xs past)

-- what is passed at a number is passed at every higher one
pub passed_on : (n m : ℕ) → n ≤ m → (xs : List ℕ) → not_below m (not_below n xs) ≡ not_below m xs
unfolding not_below
passed_on n m h [] = refl
passed_on n m h (x ∷ xs) = go (ltb x n) refl (passed_on n m h xs)
  where
    go : (t : Bool) → ltb x n ≡ t → not_below m (not_below n xs) ≡ not_below m xs → not_below m (cond t (not_below n xs) (x ∷ xs)) ≡ not_below m (x ∷ xs)
    go true e rest = rw (lt-ltb x m (omega (arith, ltb-true x n e))) rest
    go false e rest = refl

-- in an ascending list nothing after an entry is as low as it
tail_ascends : (x : ℕ) (xs : List ℕ) → ascending (x ∷ xs) ≡ true → ascending xs ≡ true
unfolding ascending
tail_ascends x [] h = refl
tail_ascends x (y ∷ ys) h = (both (ltb x y) (ascending (y ∷ ys)) h).1

none_after : (n x : ℕ) (xs : List ℕ) → n ≤ x → ascending (x ∷ xs) ≡ true → some (eqb n) xs ≡ false
unfolding some ascending
none_after n x [] low h = refl
none_after n x (y ∷ ys) low h =
    let tests = both (ltb x y) (ascending (y ∷ ys)) h in
    let above = ltb-true x y tests.0 in
    rw (ne_eqb n y (λ e. absurd (omega (arith, e, above)))) (none_after n y ys (omega (arith, above)) tests.1)

-- so a number is in the list where it stands first once all below it are passed
pub among_ascending : (n : ℕ) (xs : List ℕ) → ascending xs ≡ true → some (eqb n) xs ≡ starts_with n (not_below n xs)
unfolding some not_below starts_with
among_ascending n [] h = refl
among_ascending n (x ∷ xs) h = go (ltb x n) refl (among_ascending n xs (tail_ascends x xs h))
  where
    go : (t : Bool) → ltb x n ≡ t → some (eqb n) xs ≡ starts_with n (not_below n xs) → (eqb n x || some (eqb n) xs) ≡ starts_with n (cond t (not_below n xs) (x ∷ xs))
    go true e rest = let above = ltb-true x n e in rw (ne_eqb n x (λ s. absurd (omega (arith, s, above)))) rest
    go false e rest = ap (λ (t : Bool). eqb n x || t) (none_after n x xs (ltb-false x n e) h) ∙ or-false (eqb n x)
