-- Laws of sums over lists, stated once over what is summed.
use Rattle.numbers.proofs.Words.{ℕ, zero, suc, ◌+◌, ◌*◌, ◌≤◌, ◌<◌, ◌^◌, zero-le, zero-add, add_assoc, add_comm, not-suc-le-zero, le_of_suc-le-suc, mul-le-mul_left, arith, ◌≡◌, refl, sym, ap, ◌∙◌, List, [], ◌∷◌, ◌++◌, flat_map, map, map-append, map-map, length, get_or, set, drop, drop_of_length-le, length-map, ℤ, pos, neg_ℤ, nat_abs, ◌+ℤ◌, ◌-ℤ◌, ◌*ℤ◌, +ℤ_idl, +ℤ_idr, +ℤ_assoc, +ℤ_comm, neg_ℤ-+ℤ, zero-*ℤ, w64, SFits, to_z, of_z, to_z-of_z, gathered, total, total_ℤ}
use Rattle.numbers.proofs.Lists.{Has, from_here}
use Rattle.numbers.proofs.Changed.{read_set, read_at}
use Rattle.numbers.proofs.Whole.{plus, minus, ext, sum, sum_product, size, sfits_size}

-- what a sum needs of its addition
pub record Addition {A : Type 0} (join : A → A → A) (none : A) : Type 0 where
  pub unit : (x : A) → join none x ≡ x
  pub assoc : (x y z : A) → join (join x y) z ≡ join x (join y z)
  pub comm : (x y : A) → join x y ≡ join y x

pub naturals : Addition ◌+◌ 0
naturals = record { unit = zero-add; assoc = add_assoc; comm = add_comm }

pub wholes : Addition ◌+ℤ◌ (pos 0)
wholes = record { unit = +ℤ_idl; assoc = +ℤ_assoc; comm = +ℤ_comm }

module _ {A : Type 0} (join : A → A → A) (none : A) (add : Addition join none) where
  -- the second and third of four summands change places
  pub exchange : (x y z t : A) → join (join x y) (join z t) ≡ join (join x z) (join y t)
  exchange x y z t = simp add.assoc (ap (join x) (sym (add.assoc y z t) ∙ ap (λ (r : A). join r t) (add.comm y z) ∙ add.assoc z y t))

  -- of an append
  pub total-append : (xs ys : List A) → gathered join none (xs ++ ys) ≡ join (gathered join none xs) (gathered join none ys)
  unfolding gathered
  total-append [] ys = sym (add.unit _)
  total-append (x ∷ xs) ys = ap (join x) (total-append xs ys) ∙ sym (add.assoc _ _ _)

  -- of what f reads of an append, and of one entry more
  pub total_joined : {B : Type 0} (f : B → A) (xs ys : List B) → gathered join none (map f (xs ++ ys)) ≡ join (gathered join none (map f xs)) (gathered join none (map f ys))
  total_joined f xs ys = ap (gathered join none) (map-append f xs ys) ∙ total-append (map f xs) (map f ys)

  pub total_last : {B : Type 0} (f : B → A) (xs : List B) (y : B) → gathered join none (map f (xs ++ (y ∷ []))) ≡ join (gathered join none (map f xs)) (f y)
  unfolding gathered
  total_last f xs y = total_joined f xs (y ∷ []) ∙ ap (join (gathered join none (map f xs))) (add.comm (f y) none ∙ add.unit (f y))

  -- of a map that adds two readings of each entry
  pub total-map : {B : Type 0} (f g : B → A) (xs : List B) → gathered join none (map (λ (x : B). join (f x) (g x)) xs) ≡ join (gathered join none (map f xs)) (gathered join none (map g xs))
  unfolding gathered
  total-map f g [] = sym (add.unit _)
  total-map f g (x ∷ xs) = ap (join (join (f x) (g x))) (total-map f g xs) ∙ exchange _ _ _ _

  -- of a list changed at one index
  pub total-set : (xs : List A) (i : ℕ) (y : A) → i < length xs → join (gathered join none (set xs i y)) (get_or xs i none) ≡ join (gathered join none xs) y
  unfolding gathered
  total-set [] i y h = absurd (not-suc-le-zero h)
  total-set (x ∷ xs) zero y h = add.assoc _ _ _ ∙ add.comm _ _ ∙ ap (λ (r : A). join r y) (add.comm _ _)
  total-set (x ∷ xs) (suc i) y h = add.assoc _ _ _ ∙ ap (join x) (total-set xs i y (le_of_suc-le-suc h)) ∙ sym (add.assoc _ _ _)

  -- of what f reads of the entries, one of them changed
  pub total_read_set : {B : Type 0} (f : B → A) (xs : List B) (i : ℕ) (y d : B) → i < length xs → join (gathered join none (map f (set xs i y))) (f (get_or xs i d)) ≡ join (gathered join none (map f xs)) (f y)
  total_read_set f xs i y d h = rw (read_set f xs i y, ← read_at f xs i d none h) (total-set (map f xs) i (f y) (omega (arith, length-map xs f)))

-- a map from one addition to another that keeps sums may be taken before or after summing
pub total_kept : {A B : Type 0} (join : A → A → A) (none : A) (join' : B → B → B) (none' : B) (h : A → B) → h none ≡ none' → ((x y : A) → h (join x y) ≡ join' (h x) (h y)) → (xs : List A) → gathered join' none' (map h xs) ≡ h (gathered join none xs)
unfolding gathered
total_kept join none join' none' h e k [] = sym e
total_kept join none join' none' h e k (x ∷ xs) = ap (join' (h x)) (total_kept join none join' none' h e k xs) ∙ sym (k x (gathered join none xs))

-- sums of natural numbers that are read of the entries are ordered as what is read
pub total_within : {A : Type 0} (f g : A → ℕ) → ((x : A) → f x ≤ g x) → (xs : List A) → total (map f xs) ≤ total (map g xs)
unfolding gathered
total_within f g le [] = omega arith
total_within f g le (x ∷ xs) = omega (arith, le x, total_within f g le xs)

-- a measure of lists that adds up over an append, of the lists that the entries of a list stand for, one after the other
pub measured : {A B : Type 0} (measure : List B → ℕ) → measure [] ≡ 0 → ((xs ys : List B) → measure (xs ++ ys) ≡ measure xs + measure ys) → (g : A → List B) (xs : List A) → measure (flat_map g xs) ≡ total (map (λ (x : A). measure (g x)) xs)
unfolding flat_map gathered
measured measure none joined g [] = none
measured measure none joined g (x ∷ xs) = joined (g x) (flat_map g xs) ∙ ap (λ (n : ℕ). measure (g x) + n) (measured measure none joined g xs)

-- sums of whole numbers that f reads of the entries
module _ {A : Type 0} (f : A → ℤ) where
  -- one entry is changed so that z more is read
  pub total_moved : (xs : List A) (i : ℕ) (y d : A) (z : ℤ) → i < length xs → f y ≡ f (get_or xs i d) +ℤ z → total_ℤ (map f (set xs i y)) ≡ total_ℤ (map f xs) +ℤ z
  total_moved xs i y d z h e =
      let new = total_ℤ (map f (set xs i y)) in
      let old = total_ℤ (map f xs) in
      let was = f (get_or xs i d) in
      let moves : new +ℤ was ≡ old +ℤ (was +ℤ z) = total_read_set ◌+ℤ◌ (pos 0) wholes f xs i y d h ∙ ap (λ (t : ℤ). old +ℤ t) e in
      ext _ _ (omega (arith, ap plus moves, ap minus moves, sum new was, sum was z, sum old (was +ℤ z), sum old z))

  -- one entry more, of which 0 is read
  pub total_more : (xs : List A) (y : A) → f y ≡ pos 0 → total_ℤ (map f (xs ++ (y ∷ []))) ≡ total_ℤ (map f xs)
  total_more xs y e = total_last ◌+ℤ◌ (pos 0) wholes f xs y ∙ ap (λ (z : ℤ). total_ℤ (map f xs) +ℤ z) e ∙ +ℤ_idr _

  -- each is multiplied
  pub total_product : (v : ℤ) (xs : List A) → total_ℤ (map (λ (x : A). f x *ℤ v) xs) ≡ total_ℤ (map f xs) *ℤ v
  total_product v xs =
      sym (ap total_ℤ (map-map (λ (z : ℤ). z *ℤ v) f xs))
      ∙ total_kept ◌+ℤ◌ (pos 0) ◌+ℤ◌ (pos 0) (λ (z : ℤ). z *ℤ v) (zero-*ℤ v) (λ (x y : ℤ). sum_product x y v) (map f xs)

  -- another reading is taken off
  pub total_difference : (g : A → ℤ) (xs : List A) → total_ℤ (map (λ (x : A). f x -ℤ g x) xs) ≡ total_ℤ (map f xs) -ℤ total_ℤ (map g xs)
  total_difference g xs =
      total-map ◌+ℤ◌ (pos 0) wholes f (λ (x : A). neg_ℤ (g x)) xs
      ∙ ap (λ (z : ℤ). total_ℤ (map f xs) +ℤ z) (sym (ap total_ℤ (map-map neg_ℤ g xs)) ∙ total_kept ◌+ℤ◌ (pos 0) ◌+ℤ◌ (pos 0) neg_ℤ refl neg_ℤ-+ℤ (map g xs))

-- a loop's sum of a reading of the entries, held as bits: after i entries it makes up the whole with what is left, and is
-- within i times a limit
pub record Running {A : Type 0} (f : A → ℤ) (limit : ℕ) (xs : List A) (bits i : ℕ) : Type 0 where
  pub whole : to_z w64 bits +ℤ total_ℤ (map f (drop i xs)) ≡ total_ℤ (map f xs)
  pub within : nat_abs (to_z w64 bits) ≤ limit * i

pub running_none : {A : Type 0} (f : A → ℤ) (limit : ℕ) (xs : List A) → Running f limit xs 0 0
running_none f limit xs = record { whole = +ℤ_idl _; within = zero-le }

pub running_end : {A : Type 0} {f : A → ℤ} {limit : ℕ} {xs : List A} {bits i : ℕ} → Running f limit xs bits i → length xs ≤ i → to_z w64 bits ≡ total_ℤ (map f xs)
unfolding gathered
running_end {xs = xs} {bits = bits} run past = sym (+ℤ_idr (to_z w64 bits)) ∙ rw (drop_of_length-le xs past) at run.whole

-- one entry more, within the limit
module _ {A : Type 0} {f : A → ℤ} {limit : ℕ} {xs : List A} {bits i : ℕ} {a : A} (run : Running f limit xs bits i) (here : Has xs i a) (small : nat_abs (f a) ≤ limit) where
  added_within : nat_abs (to_z w64 bits +ℤ f a) ≤ limit * (i + 1)
  added_within = omega (arith, sum (to_z w64 bits) (f a), size (to_z w64 bits), size (f a), size (to_z w64 bits +ℤ f a), run.within)

  pub running_fits : (most : ℕ) → i < most → limit * most < 2 ^ 63 → SFits w64 (to_z w64 bits +ℤ f a)
  running_fits most h fits = sfits_size w64 _ (omega (arith, added_within, mul-le-mul_left limit h))

  pub running_next : (z : ℤ) → z ≡ to_z w64 bits +ℤ f a → SFits w64 z → Running f limit xs (of_z w64 z) (i + 1)
  unfolding gathered
  running_next z e fits =
      record {
        whole = ap (λ (y : ℤ). y +ℤ total_ℤ (map f (drop (i + 1) xs))) (to_z-of_z fits ∙ e) ∙ +ℤ_assoc (to_z w64 bits) (f a) (total_ℤ (map f (drop (i + 1) xs))) ∙ rw (from_here here) at run.whole;
        within = rw (to_z-of_z fits ∙ e) added_within;
      }
