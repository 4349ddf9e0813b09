-- Tests over the entries of a list that changes: at one place, by one entry at its end, or in every entry.
use Rattle.numbers.proofs.Words.{ℕ, zero, suc, ◌+◌, ◌-◌, ◌≤◌, ◌<◌, not-suc-le-zero, le_of_suc-le-suc, add-one, arith, ◌≡◌, refl, sym, ap, ap₂, ◌∙◌, Bool, true, false, not, ◌&&◌, ◌||◌, List, [], ◌∷◌, ◌++◌, map, length, get_or, set, take, drop, replicate, take-suc-set, drop-set-lt, drop-drop, get_or-drop, not-true, every, some, apart}
use Rattle.numbers.proofs.Tests.{both, together, or_left, or_right}

module _ {A : Type 0} (p : A → Bool) where
  -- a test of every entry, over an append
  pub every_append : (xs ys : List A) → every p xs ≡ true → every p ys ≡ true → every p (xs ++ ys) ≡ true
  unfolding every
  every_append [] ys e h = h
  every_append (x ∷ xs) ys e h =
      let parts = both (p x) (every p xs) e in
      together parts.0 (every_append xs ys parts.1 h)

  -- over a list changed at one place
  pub every_set : (xs : List A) (i : ℕ) (y : A) → every p xs ≡ true → p y ≡ true → every p (set xs i y) ≡ true
  unfolding every
  every_set [] i y e h = e
  every_set (x ∷ xs) zero y e h = together h (both (p x) (every p xs) e).1
  every_set (x ∷ xs) (suc i) y e h =
      let parts = both (p x) (every p xs) e in
      together parts.0 (every_set xs i y parts.1 h)

  -- over the rest of a list
  pub every_drop : (n : ℕ) (xs : List A) → every p xs ≡ true → every p (drop n xs) ≡ true
  unfolding every
  every_drop zero xs e = e
  every_drop (suc n) [] e = e
  every_drop (suc n) (x ∷ xs) e = every_drop n xs (both (p x) (every p xs) e).1

  -- over copies of one entry
  pub every-replicate : (n : ℕ) (x : A) → p x ≡ true → every p (replicate n x) ≡ true
  unfolding every
  every-replicate zero x e = refl
  every-replicate (suc n) x e = together e (every-replicate n x e)

-- a test that follows from another
pub every_weaker : {A : Type 0} (p q : A → Bool) → ((x : A) → p x ≡ true → q x ≡ true) → (xs : List A) → every p xs ≡ true → every q xs ≡ true
unfolding every
every_weaker p q follows [] e = refl
every_weaker p q follows (x ∷ xs) e =
    let parts = both (p x) (every p xs) e in
    together (follows x parts.0) (every_weaker p q follows xs parts.1)

-- what f reads of the entries: tests of it
module _ {A B : Type 0} (f : A → B) where
  pub every_read : (p : B → Bool) (xs : List A) → every (λ (x : A). p (f x)) xs ≡ every p (map f xs)
  unfolding every
  every_read p [] = refl
  every_read p (x ∷ xs) = ap (λ (t : Bool). p (f x) && t) (every_read p xs)

  pub some_read : (p : B → Bool) (xs : List A) → some (λ (x : A). p (f x)) xs ≡ some p (map f xs)
  unfolding some
  some_read p [] = refl
  some_read p (x ∷ xs) = ap (λ (t : Bool). p (f x) || t) (some_read p xs)

  pub apart_read : (alike : B → B → Bool) (xs : List A) → apart (λ (x y : A). alike (f x) (f y)) xs ≡ apart alike (map f xs)
  unfolding apart
  apart_read alike [] = refl
  apart_read alike (x ∷ xs) = ap₂ (λ (s t : Bool). not s && t) (some_read (alike (f x)) xs) (apart_read alike xs)

  -- where one entry is changed, and where one is read
  pub read_set : (xs : List A) (i : ℕ) (y : A) → map f (set xs i y) ≡ set (map f xs) i (f y)
  read_set [] i y = refl
  read_set (x ∷ xs) zero y = refl
  read_set (x ∷ xs) (suc i) y = ap (λ (zs : List B). f x ∷ zs) (read_set xs i y)

  pub read_at : (xs : List A) (i : ℕ) (d : A) (e : B) → i < length xs → get_or (map f xs) i e ≡ f (get_or xs i d)
  read_at [] i d e h = absurd (not-suc-le-zero h)
  read_at (x ∷ xs) zero d e h = refl
  read_at (x ∷ xs) (suc i) d e h = read_at xs i d e (le_of_suc-le-suc h)

-- one entry more, like none of those before it
module _ {A : Type 0} (alike : A → A → Bool) (symmetric : (x y : A) → alike x y ≡ alike y x) (y : A) where
  some_more : (p : A → Bool) (xs : List A) → some p xs ≡ false → p y ≡ false → some p (xs ++ (y ∷ [])) ≡ false
  unfolding some
  some_more p [] e h = simp h
  some_more p (x ∷ xs) e h = simp (or_left (p x) (some p xs) e, some_more p xs (or_right (p x) (some p xs) e) h)

  pub apart_more : (xs : List A) → apart alike xs ≡ true → some (alike y) xs ≡ false → apart alike (xs ++ (y ∷ [])) ≡ true
  unfolding apart some
  apart_more [] e h = refl
  apart_more (x ∷ xs) e h =
      let parts = both (not (some (alike x) xs)) (apart alike xs) e in
      let none = some_more (alike x) xs (not-true _ parts.0) (symmetric x y ∙ or_left (alike y x) (some (alike y) xs) h) in
      together (ap not none) (apart_more xs parts.1 (or_right (alike y x) (some (alike y) xs) h))

-- the next place is written: what is held is one entry longer, what is not is one shorter
module _ {A : Type 0} (xs : List A) (n : ℕ) (y : A) (room : n < length xs) where
  pub take_more : take (n + 1) (set xs n y) ≡ take n xs ++ (y ∷ [])
  take_more = rw add-one (take-suc-set xs n y room)

  pub drop_more : drop (n + 1) (set xs n y) ≡ drop 1 (drop n xs)
  drop_more = drop-set-lt (n + 1) xs n y (omega arith) ∙ sym (drop-drop 1 n xs)

-- two lists that are the same from n on have the same entries there
pub same_rest : {A : Type 0} (xs ys : List A) (n i : ℕ) (d : A) → drop n xs ≡ drop n ys → n ≤ i → get_or xs i d ≡ get_or ys i d
same_rest xs ys n i d e h =
    let at : i ≡ n + (i - n) = omega arith in
    ap (λ (k : ℕ). get_or xs k d) at
    ∙ sym (get_or-drop n xs (i - n) d)
    ∙ ap (λ (zs : List _). get_or zs (i - n) d) e
    ∙ get_or-drop n ys (i - n) d
    ∙ ap (λ (k : ℕ). get_or ys k d) (sym at)
