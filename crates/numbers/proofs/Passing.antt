-- The entries of a list that pass a test; the lists that entries stand for, one after the other, by number; and what is written of entries and read back.
use Rattle.numbers.proofs.Words.{ℕ, zero, suc, ◌+◌, ◌≤◌, ◌<◌, arith, ◌≡◌, refl, ap, ap₂, ◌∙◌, Bool, true, false, not, cond, List, [], ◌∷◌, ◌++◌, append-nil, map, flat_map, length, get_or, length-map, counted, every, passing, over}
use Rattle.numbers.proofs.Tests.{both, together}
use Rattle.numbers.proofs.Lists.{over_at}
use Rattle.numbers.proofs.Changed.{read_at}

-- where no entry passes a test, they all pass its opposite
pub none_passing : {A : Type 0} (test : A → Bool) (xs : List A) → passing test xs ≡ [] → passing (λ (x : A). not (test x)) xs ≡ xs
unfolding passing
none_passing test [] e = refl
none_passing {A = A} test (x ∷ xs) e = go (none_passing test xs) (test x) e
  where
    go : (passing test xs ≡ [] → passing (λ (y : A). not (test y)) xs ≡ xs) → (t : Bool) → cond t (x ∷ passing test xs) (passing test xs) ≡ []
        → cond (not t) (x ∷ passing (λ (y : A). not (test y)) xs) (passing (λ (y : A). not (test y)) xs) ≡ x ∷ xs
    go later true e = absurd (omega (arith, ap length e))
    go later false e = ap (λ (ys : List A). x ∷ ys) (later e)

-- what passes is no more than there is, and what holds of every entry holds of those that pass
pub passing-length : {A : Type 0} (test : A → Bool) (xs : List A) → length (passing test xs) ≤ length xs
unfolding passing
passing-length test [] = omega arith
passing-length {A = A} test (x ∷ xs) = go (test x) (passing-length test xs)
  where
    go : (t : Bool) → length (passing test xs) ≤ length xs → length (cond t (x ∷ passing test xs) (passing test xs)) ≤ length (x ∷ xs)
    go true fewer = omega (arith, fewer)
    go false fewer = omega (arith, fewer)

pub every-passing : {A : Type 0} (good test : A → Bool) (xs : List A) → every good xs ≡ true → every good (passing test xs) ≡ true
unfolding passing every
every-passing good test [] e = refl
every-passing {A = A} good test (x ∷ xs) e = let parts = both (good x) (every good xs) e in go (test x) parts.0 (every-passing good test xs parts.1)
  where
    go : (t : Bool) → good x ≡ true → every good (passing test xs) ≡ true → every good (cond t (x ∷ passing test xs) (passing test xs)) ≡ true
    go true here later = together here later
    go false here later = later

-- the entries that pass a test, of an append
pub passing-append : {A : Type 0} (test : A → Bool) (xs ys : List A) → passing test (xs ++ ys) ≡ passing test xs ++ passing test ys
unfolding passing
passing-append test [] ys = refl
passing-append {A = A} test (x ∷ xs) ys = go (test x) (passing-append test xs ys)
  where
    go : (t : Bool) → passing test (xs ++ ys) ≡ passing test xs ++ passing test ys
        → cond t (x ∷ passing test (xs ++ ys)) (passing test (xs ++ ys)) ≡ cond t (x ∷ passing test xs) (passing test xs) ++ passing test ys
    go true e = ap (λ (l : List A). x ∷ l) e
    go false e = e

-- and with one entry more, which passes or does not
module _ {A : Type 0} (test : A → Bool) (xs : List A) (y : A) where
  pub passing_more : test y ≡ true → passing test (xs ++ (y ∷ [])) ≡ passing test xs ++ (y ∷ [])
  unfolding passing
  passing_more e = passing-append test xs (y ∷ []) ∙ ap (λ (t : Bool). passing test xs ++ cond t (y ∷ []) []) e

  pub passing_still : test y ≡ false → passing test (xs ++ (y ∷ [])) ≡ passing test xs
  unfolding passing
  passing_still e = passing-append test xs (y ∷ []) ∙ ap (λ (t : Bool). passing test xs ++ cond t (y ∷ []) []) e ∙ append-nil (passing test xs)

-- the lists that entries stand for, where these are read of other entries
pub flat_map_map : {A B C : Type 0} (f : B → List C) (g : A → B) (xs : List A) → flat_map f (map g xs) ≡ flat_map (λ (x : A). f (g x)) xs
unfolding flat_map
flat_map_map f g [] = refl
flat_map_map {C = C} f g (x ∷ xs) = ap (λ (l : List C). f (g x) ++ l) (flat_map_map f g xs)

-- where numbers stand for the same lists
pub flat_map_same : {A : Type 0} (f g : ℕ → List A) (a n : ℕ) → ((i : ℕ) → i < a + n → f i ≡ g i) → flat_map f (counted a n) ≡ flat_map g (counted a n)
unfolding flat_map counted
flat_map_same f g a zero same = refl
flat_map_same f g a (suc n) same = ap₂ ◌++◌ (same a (omega arith)) (flat_map_same f g (suc a) n (λ i h. same i (omega (arith, h))))

-- what is read of entries, written over the first ones of a list
pub over-map : {A B : Type 0} (read : A → B) (xs : List A) (list : List B) (i : ℕ) (d : A) (e : B) → i < length xs → get_or (over (map read xs) list) i e ≡ read (get_or xs i d)
over-map read xs list i d e h = over_at (map read xs) list i e (omega (arith, h, length-map xs read)) ∙ read_at read xs i d e h
