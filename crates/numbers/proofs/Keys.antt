-- A number as a key: two numbers in one, bytes in one, and entries of a list that are alike where their keys are equal.
use Rattle.numbers.proofs.Words.{ℕ, suc, ◌+◌, ◌*◌, ◌≤◌, ◌<◌, ◌^◌, pow-suc, mul-le-mul, arith, ◌≡◌, refl, sym, ap, ap₂, subst, ◌∙◌, ⊎_elim, Bool, true, false, not, ◌&&◌, ◌||◌, List, [], ◌∷◌, ◌++◌, map, ltb, eqb, length, length-map, set, take, drop, take_at, take_all, lt-ltb, le-ltb, eq-eqb, ne_eqb, eqb-true, eqb-false, every, some, apart, same, before, big_endian}
use Rattle.numbers.proofs.Lists.{Has, every_next, every_stop, every_end, written_next, written_length}
use Rattle.numbers.proofs.Little.{Bytes}
use Rattle.numbers.proofs.Tests.{and_left, and_right, together, fails_left, fails_right, ltb_as, below_or_not, same_or_not}

times : (base : ℕ) {x y : ℕ} → x ≤ y → x * base ≤ y * base
times base {x} {y} h = mul-le-mul {n₂ = y} {m₂ = base} h (omega arith)

-- two numbers in one: x, and u below a base
abbrev pub two : ℕ → ℕ → ℕ → ℕ
two base x u = x * base + u

module _ (base x y u v : ℕ) where
  lower : u < base → x < y → two base x u < two base y v
  lower below h = omega (arith, times base {x = suc x} {y = y} h, below)

module _ (base x y u v : ℕ) (below : u < base) (below' : v < base) where
  -- the parts are read back
  pub high_same : two base x u ≡ two base y v → x ≡ y
  high_same e =
      ⊎_elim (λ (h : x < y). absurd (omega (arith, e, lower base x y u v below h)))
      (λ (h : y ≤ x). ⊎_elim (λ (k : y < x). absurd (omega (arith, e, lower base y x v u below' k))) (λ (k : x ≤ y). omega (arith, h, k)) (below_or_not y x))
      (below_or_not x y)

  pub low_same : x ≡ y → two base x u ≡ two base y v → u ≡ v
  low_same h e = omega (arith, e, ap (λ (a : ℕ). a * base) h)

  pub two_same : (eqb x y && eqb u v) ≡ eqb (two base x u) (two base y v)
  two_same = go (eqb (two base x u) (two base y v)) refl
    where
      go : (t : Bool) → eqb (two base x u) (two base y v) ≡ t → (eqb x y && eqb u v) ≡ t
      go true e =
          let whole = eqb-true _ _ e in
          let high = high_same whole in
          together (eq-eqb x y high) (eq-eqb u v (low_same high whole))
      go false e =
          ⊎_elim (λ (h : x ≡ y). fails_right (eqb x y) (eqb u v) (ne_eqb u v (λ k. eqb-false _ _ e (ap₂ (two base) h k))))
          (λ (h : x ≡ y → ⊥). fails_left (eqb x y) (eqb u v) (ne_eqb x y h)) (same_or_not x y)

  -- the lower parts decide where the higher ones are the same
  two_level : x ≡ y → ltb u v ≡ ltb (two base x u) (two base y v)
  two_level e =
      let level : x * base ≡ y * base = ap (λ (a : ℕ). a * base) e in
      ltb_as u v (two base x u) (two base y v) (λ h. omega (arith, h, level)) (λ h. omega (arith, h, level))

  pub two_before : (ltb x y || eqb x y && ltb u v) ≡ ltb (two base x u) (two base y v)
  two_before =
      ⊎_elim (λ (h : x < y). simp (lt-ltb x y h, lt-ltb (two base x u) (two base y v) (lower base x y u v below h)))
      (λ (h : y ≤ x). ⊎_elim
      (λ (e : x ≡ y). simp (le-ltb x y h, eq-eqb x y e) (two_level e))
      (λ (e : x ≡ y → ⊥). simp (le-ltb x y h, ne_eqb x y e, le-ltb (two base x u) (two base y v) (omega (arith, lower base y x v u below' (omega (arith, h, e))))))
      (same_or_not x y))
      (below_or_not x y)

-- bytes, the highest first, in one number
pub big_below : (xs : List ℕ) → Bytes xs → big_endian xs < 256 ^ length xs
unfolding big_endian
big_below [] bytes = omega arith
big_below (x ∷ xs) bytes =
    let high : x * 256 ^ length xs ≤ 255 * 256 ^ length xs = times (256 ^ length xs) {x = x} {y = 255} (omega (arith, bytes 0)) in
    omega (arith, high, big_below xs (λ i. bytes (suc i)), pow-suc 256 (length xs))

-- what strings of equal length say of one byte more
module _ (x y : ℕ) (xs ys : List ℕ) (l : length xs ≡ length ys) (bytes : Bytes xs) (bytes' : Bytes ys) where
  below' : big_endian ys < 256 ^ length xs
  below' = subst (λ (n : ℕ). big_endian ys < 256 ^ n) (sym l) (big_below ys bytes')

  one_same : (eqb x y && eqb (big_endian xs) (big_endian ys)) ≡ eqb (big_endian (x ∷ xs)) (big_endian (y ∷ ys))
  unfolding big_endian
  one_same = rw (← l) (two_same (256 ^ length xs) x y (big_endian xs) (big_endian ys) (big_below xs bytes) below')

  one_before : (ltb x y || eqb x y && ltb (big_endian xs) (big_endian ys)) ≡ ltb (big_endian (x ∷ xs)) (big_endian (y ∷ ys))
  unfolding big_endian
  one_before = rw (← l) (two_before (256 ^ length xs) x y (big_endian xs) (big_endian ys) (big_below xs bytes) below')

-- two strings are the same where their numbers are equal, and one stands before the other where its number is lower
pub big_same : (xs ys : List ℕ) → length xs ≡ length ys → Bytes xs → Bytes ys → same xs ys ≡ eqb (big_endian xs) (big_endian ys)
unfolding same big_endian
big_same [] [] l bytes bytes' = refl
big_same [] (y ∷ ys) l bytes bytes' = absurd (omega (arith, l))
big_same (x ∷ xs) [] l bytes bytes' = absurd (omega (arith, l))
big_same (x ∷ xs) (y ∷ ys) l bytes bytes' =
    let rest : length xs ≡ length ys = omega (arith, l) in
    ap (λ (t : Bool). eqb x y && t) (big_same xs ys rest (λ i. bytes (suc i)) (λ i. bytes' (suc i)))
    ∙ one_same x y xs ys rest (λ i. bytes (suc i)) (λ i. bytes' (suc i))

pub big_before : (xs ys : List ℕ) → length xs ≡ length ys → Bytes xs → Bytes ys → before xs ys ≡ ltb (big_endian xs) (big_endian ys)
unfolding before big_endian
big_before [] [] l bytes bytes' = refl
big_before [] (y ∷ ys) l bytes bytes' = absurd (omega (arith, l))
big_before (x ∷ xs) [] l bytes bytes' = absurd (omega (arith, l))
big_before (x ∷ xs) (y ∷ ys) l bytes bytes' =
    let rest : length xs ≡ length ys = omega (arith, l) in
    ap (λ (t : Bool). ltb x y || eqb x y && t) (big_before xs ys rest (λ i. bytes (suc i)) (λ i. bytes' (suc i)))
    ∙ one_before x y xs ys rest (λ i. bytes (suc i)) (λ i. bytes' (suc i))

-- no two entries are alike where no two keys are equal
module _ {A : Type 0} (p : A → Bool) (alike : A → A → Bool) (key : A → ℕ) (told : (x y : A) → p x ≡ true → p y ≡ true → alike x y ≡ eqb (key x) (key y)) where
  some_keys : (x : A) → p x ≡ true → (xs : List A) → every p xs ≡ true → some (alike x) xs ≡ some (eqb (key x)) (map key xs)
  unfolding every some
  some_keys x h [] e = refl
  some_keys x h (y ∷ ys) e = ap₂ ◌||◌ (told x y h (and_left (p y) (every p ys) e)) (some_keys x h ys (and_right (p y) (every p ys) e))

  pub apart_keys : (xs : List A) → every p xs ≡ true → apart alike xs ≡ apart eqb (map key xs)
  unfolding every apart
  apart_keys [] e = refl
  apart_keys (x ∷ xs) e =
      let here = and_left (p x) (every p xs) e in
      let rest = and_right (p x) (every p xs) e in
      ap₂ (λ (s t : Bool). not s && t) (some_keys x here xs rest) (apart_keys xs rest)

-- what a walk over xs keeps that tests each entry and writes its key into a column
pub record Walked {A : Type 0} (p : A → Bool) (key : A → ℕ) (xs : List A) (was now : List ℕ) (i : ℕ) : Type 0 where
  pub within : i ≤ length xs
  pub tested : every p xs ≡ every p (drop i xs)
  pub keys : now ≡ map key (take i xs) ++ drop i was

pub walked_none : {A : Type 0} (p : A → Bool) (key : A → ℕ) (xs : List A) (was : List ℕ) → Walked p key xs was was 0
walked_none p key xs was = record { within = omega arith; tested = refl; keys = refl }

module _ {A : Type 0} {p : A → Bool} {key : A → ℕ} {xs : List A} {was now : List ℕ} {i : ℕ} (walked : Walked p key xs was now i) where
  pub walked_length : i ≤ length was → length now ≡ length was
  walked_length h = ap length walked.keys ∙ written_length key xs was i walked.within h

  pub walked_stop : {x : A} → Has xs i x → p x ≡ false → every p xs ≡ false
  walked_stop here e = walked.tested ∙ every_stop here p e

  pub walked_next : {x : A} → Has xs i x → p x ≡ true → i < length was → (k : ℕ) → k ≡ key x → Walked p key xs was (set now i k) (i + 1)
  walked_next here e h k is =
      record { within = omega (arith, here.below); tested = walked.tested ∙ every_next here p e; keys = ap₂ (λ (l : List ℕ) (j : ℕ). set l i j) walked.keys is ∙ written_next key was here h }

  -- at the end every entry has passed, and the column's front is the keys
  module _ (past : length xs ≤ i) where
    pub walked_all : every p xs ≡ true
    walked_all = walked.tested ∙ every_end xs i past p

    pub walked_keys : (n : ℕ) → length xs ≡ n → take n now ≡ map key xs
    walked_keys n e =
        let all : take i xs ≡ xs = take_all i xs past in
        ap (take n) walked.keys ∙ take_at (map key (take i xs)) (drop i was) n (length-map (take i xs) key ∙ ap length all ∙ e) ∙ ap (map key) all
