-- Entries that are as asked, in the words of the library's iterators.
use Rattle.numbers.proofs.Words.{ℕ, suc, ◌+◌, arith, ◌≡◌, refl, ap, Bool, true, false, not, cond, ◌&&◌, List, [], ◌∷◌, eqb, passing}
use Rattle.std.specs.List.{filter, prefix_len, zip}
use Rattle.list_leaves.specs.Leaves.{place_of}

-- what a filter keeps
pub kept : {A : Type 0} (test : A → Bool) (xs : List A) → filter test xs ≡ passing test xs
unfolding passing
kept test [] = refl
kept test (x ∷ xs) = ap (λ rest. cond (test x) (x ∷ rest) rest) (kept test xs)

-- the pairs before the first one that is x and y
one_pair : (t : Bool) (m n : ℕ) → m ≡ n → cond (not t) (1 + m) 0 ≡ cond t 0 (suc n)
one_pair true m n e = refl
one_pair false m n e = omega (arith, e)

pub pairs_before : (x y : ℕ) (xs ys : List ℕ) → prefix_len (λ (p : ℕ × ℕ). not (eqb p.0 x && eqb p.1 y)) (zip xs ys) ≡ place_of x y xs ys
unfolding place_of
pairs_before x y [] ys = refl
pairs_before x y (a ∷ xs) [] = refl
pairs_before x y (a ∷ xs) (b ∷ ys) = one_pair (eqb a x && eqb b y) _ _ (pairs_before x y xs ys)
