-- Tests over the entries of a list, one entry after the other, as a loop over the list goes: what a test says of
-- `drop i xs` and of `drop (i + 1) xs`, where x is entry i.
use Rattle.numbers.proofs.Words.{ℕ, zero, suc, ◌+◌, ◌-◌, ◌≤◌, ◌<◌, not-suc-le-zero, le_of_suc-le-suc, le_of_lt, add-one, arith, ◌≡◌, refl, sym, ap, ◌∙◌, Bool, true, false, not, List, [], ◌∷◌, ◌++◌, map, map-append, append_assoc, append-nil, flat_map, length, get_or, set, take, drop, drop_of_length-le, length-map, length-append, length-drop, get_or-append, get_or-append-add, get_or-drop, drop-cons, take-suc, set_at, length-take-le, get_or-take, not-true, every, some, apart, over}
use Rattle.numbers.proofs.Tests.{and_left, and_right, or_left, or_right}

-- xs has x at place i
pub record Has {A : Type 0} (xs : List A) (i : ℕ) (x : A) : Type 0 where
  pub below : i < length xs
  pub other : A
  pub entry : get_or xs i other ≡ x

pub has : {A : Type 0} (xs : List A) (i : ℕ) (d : A) → i < length xs → Has xs i (get_or xs i d)
has xs i d h = record { below = h; other = d; entry = refl }

-- so have its first n entries
pub has_take : {A : Type 0} (n : ℕ) (xs : List A) (i : ℕ) (d : A) → i < n → n ≤ length xs → Has (take n xs) i (get_or xs i d)
has_take n xs i d h k = record { below = rw (length-take-le n xs k) h; other = d; entry = get_or-take n xs i d h }

module _ {A : Type 0} {xs : List A} {i : ℕ} {x : A} (here : Has xs i x) where
  -- the entries from i on: entry i, and those from i + 1 on
  pub from_here : drop i xs ≡ x ∷ drop (i + 1) xs
  from_here = rw (add-one, drop-cons xs i here.other here.below, here.entry)

  pub every_next : (p : A → Bool) → p x ≡ true → every p (drop i xs) ≡ every p (drop (i + 1) xs)
  unfolding every
  every_next p e = rw (from_here, e)

  pub every_stop : (p : A → Bool) → p x ≡ false → every p (drop i xs) ≡ false
  unfolding every
  every_stop p e = rw (from_here, e)

  pub some_next : (p : A → Bool) → p x ≡ false → some p (drop i xs) ≡ some p (drop (i + 1) xs)
  unfolding some
  some_next p e = rw (from_here, e)

  pub some_stop : (p : A → Bool) → p x ≡ true → some p (drop i xs) ≡ true
  unfolding some
  some_stop p e = rw (from_here, e)

  pub apart_next : (alike : A → A → Bool) → some (alike x) (drop (i + 1) xs) ≡ false → apart alike (drop i xs) ≡ apart alike (drop (i + 1) xs)
  unfolding apart
  apart_next alike e = rw (from_here, e)

  pub apart_stop : (alike : A → A → Bool) → some (alike x) (drop (i + 1) xs) ≡ true → apart alike (drop i xs) ≡ false
  unfolding apart
  apart_stop alike e = rw (from_here, e)

-- past the last entry
module _ {A : Type 0} (xs : List A) (i : ℕ) (past : length xs ≤ i) where
  pub every_end : (p : A → Bool) → every p (drop i xs) ≡ true
  unfolding every
  every_end p = rw (drop_of_length-le xs past)

  pub some_end : (p : A → Bool) → some p (drop i xs) ≡ false
  unfolding some
  some_end p = rw (drop_of_length-le xs past)

  pub apart_end : (alike : A → A → Bool) → apart alike (drop i xs) ≡ true
  unfolding apart
  apart_end alike = rw (drop_of_length-le xs past)

-- a list is as long as what it is mapped to; an array of structs that a function owns says its length so
pub length_mapped : (A B : Type 0) (f : A → B) (xs : List A) (n : ℕ) → length (map f xs) ≡ n → length xs ≡ n
length_mapped A B f xs n e = sym (length-map xs f) ∙ e

-- what a test of every entry says of one of them
pub every_at : {A : Type 0} (p : A → Bool) (xs : List A) (i : ℕ) (d : A) → every p xs ≡ true → i < length xs → p (get_or xs i d) ≡ true
unfolding every
every_at p [] i d e h = absurd (not-suc-le-zero h)
every_at p (x ∷ xs) zero d e h = and_left (p x) (every p xs) e
every_at p (x ∷ xs) (suc i) d e h = every_at p xs i d (and_right (p x) (every p xs) e) (le_of_suc-le-suc h)

pub every_has : {A : Type 0} (p : A → Bool) {xs : List A} {i : ℕ} {x : A} → Has xs i x → every p xs ≡ true → p x ≡ true
every_has p {xs} {i} here e = rw here.entry at (every_at p xs i here.other e here.below)

-- where none passes a test, none of them does
none_at : {A : Type 0} (p : A → Bool) (xs : List A) (i : ℕ) (d : A) → some p xs ≡ false → i < length xs → p (get_or xs i d) ≡ false
unfolding some
none_at p [] i d e h = absurd (not-suc-le-zero h)
none_at p (x ∷ xs) zero d e h = or_left (p x) (some p xs) e
none_at p (x ∷ xs) (suc i) d e h = none_at p xs i d (or_right (p x) (some p xs) e) (le_of_suc-le-suc h)

-- where no two entries are alike, an entry and a later one are not
pub apart_at : {A : Type 0} (alike : A → A → Bool) (xs : List A) (d : A) (i j : ℕ) → apart alike xs ≡ true → i < j → j < length xs → alike (get_or xs i d) (get_or xs j d) ≡ false
unfolding apart
apart_at alike [] d i j e l h = absurd (not-suc-le-zero h)
apart_at alike (x ∷ xs) d i zero e l h = absurd (not-suc-le-zero l)
apart_at alike (x ∷ xs) d zero (suc j) e l h = none_at (alike x) xs j d (not-true (some (alike x) xs) (and_left (not (some (alike x) xs)) (apart alike xs) e)) (le_of_suc-le-suc h)
apart_at alike (x ∷ xs) d (suc i) (suc j) e l h = apart_at alike xs d i j (and_right (not (some (alike x) xs)) (apart alike xs) e) (le_of_suc-le-suc l) (le_of_suc-le-suc h)

-- entries written over a list's first ones are read there, and past them those that were
pub over_at : {A : Type 0} (written list : List A) (i : ℕ) (d : A) → i < length written → get_or (over written list) i d ≡ get_or written i d
over_at written list i d h = get_or-append written (drop (length written) list) d i h

pub over_past : {A : Type 0} (written list : List A) (i : ℕ) (d : A) → length written ≤ i → get_or (over written list) i d ≡ get_or list i d
over_past written list i d h =
    let past : i ≡ length written + (i - length written) = omega (arith, h) in
    ap (λ (j : ℕ). get_or (over written list) j d) past
    ∙ get_or-append-add written (drop (length written) list) (i - length written) d
    ∙ get_or-drop (length written) list (i - length written) d
    ∙ ap (λ (j : ℕ). get_or list j d) (sym past)

-- a list of no entries
pub empty : {A : Type 0} (xs : List A) → length xs ≡ 0 → xs ≡ []
empty [] e = refl
empty (x ∷ xs) e = absurd (omega (arith, e))

-- a loop that writes f of the entries of xs over the entries of ys: after i turns, and one more
pub written_next : {A B : Type 0} (f : A → B) {xs : List A} {i : ℕ} {x : A} (ys : List B) → Has xs i x → i < length ys → set (map f (take i xs) ++ drop i ys) i (f x) ≡ map f (take (i + 1) xs) ++ drop (i + 1) ys
written_next f {xs} {i} {x} ys here h =
    let front : length (map f (take i xs)) ≡ i = length-map (take i xs) f ∙ length-take-le i xs (le_of_lt here.below) in
    let one : take (suc i) xs ≡ take i xs ++ (x ∷ []) = take-suc xs i here.other here.below ∙ ap (λ (y : _). take i xs ++ (y ∷ [])) here.entry in
    ap (λ (zs : _). set (map f (take i xs) ++ zs) i (f x)) (drop-cons ys i (get_or ys i (f x)) h)
    ∙ set_at (map f (take i xs)) _ (drop (suc i) ys) (f x) i front
    ∙ rw (add-one, one, map-append, append_assoc)

pub written_length : {A B : Type 0} (f : A → B) (xs : List A) (ys : List B) (i : ℕ) → i ≤ length xs → i ≤ length ys → length (map f (take i xs) ++ drop i ys) ≡ length ys
written_length f xs ys i h k =
    simp (length-append, length-map, length-drop, length-take-le) (omega arith)

-- the lists that the entries of a list stand for, one after the other, with one entry more
pub flat_map_last : {A B : Type 0} (f : A → List B) (xs : List A) (y : A) → flat_map f (xs ++ (y ∷ [])) ≡ flat_map f xs ++ f y
unfolding flat_map
flat_map_last f [] y = append-nil (f y)
flat_map_last f (x ∷ xs) y = ap (λ (l : List _). f x ++ l) (flat_map_last f xs y) ∙ sym (append_assoc (f x) (flat_map f xs) (f y))
