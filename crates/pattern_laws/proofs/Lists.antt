-- Entries that pass a test, counted from the first one on; and the first entries of what is read of a list.
use Rattle.numbers.proofs.Words.{ℕ, zero, suc, ◌+◌, arith, ◌≡◌, refl, ap, Bool, true, false, not, cond, ◌||◌, List, [], ◌∷◌, map, length, take, passing}
use Rattle.numbers.proofs.Counts.{one}

-- the entries that pass a test: the first one, if it does, and those after it
pub passing_front : {A : Type 0} (test : A → Bool) (x : A) (xs : List A) → length (passing test (x ∷ xs)) ≡ one (test x) + length (passing test xs)
unfolding passing
passing_front {A = A} test x xs = go (test x)
  where
    go : (t : Bool) → length (cond t (x ∷ passing test xs) (passing test xs)) ≡ one t + length (passing test xs)
    go true = omega arith
    go false = omega arith

-- of two tests of which no entry passes both, those that pass the one, neither, and the other are all entries
pub three_ways : {A : Type 0} (s t : A → Bool) → ((x : A) → s x ≡ true → t x ≡ false) → (xs : List A)
    → length (passing s xs) + length (passing (λ (x : A). not (s x || t x)) xs) + length (passing t xs) ≡ length xs
unfolding passing
three_ways s t apart [] = refl
three_ways {A = A} s t apart (x ∷ xs) =
    omega (arith, passing_front s x xs, passing_front (λ (y : A). not (s y || t y)) x xs, passing_front t x xs, one_way (s x) (t x) (apart x), three_ways s t apart xs)
  where
    one_way : (a b : Bool) → (a ≡ true → b ≡ false) → one a + one (not (a || b)) + one b ≡ 1
    one_way true b apart = rw (apart refl)
    one_way false true apart = refl
    one_way false false apart = refl

-- what is read of the first entries
pub take-map : {A B : Type 0} (f : A → B) (n : ℕ) (xs : List A) → take n (map f xs) ≡ map f (take n xs)
take-map f zero xs = refl
take-map f (suc n) [] = refl
take-map f (suc n) (x ∷ xs) = ap (λ (ys : List _). f x ∷ ys) (take-map f n xs)
