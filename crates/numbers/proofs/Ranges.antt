-- Lists by number: what `listed` holds, and sums over the numbers below n, stated once over what is summed.
use Rattle.numbers.proofs.Words.{ℕ, zero, suc, ◌+◌, ◌-◌, ◌≤◌, ◌<◌, add-zero, zero-add, add-one, not-suc-le-zero, le_of_suc-le-suc, arith, ◌≡◌, refl, sym, ap, ap₂, ◌∙◌, Bool, true, false, cond, List, [], ◌∷◌, ◌++◌, map, map-map, map-append, flat_map, ⊎_elim, eqb, length, get_or, set, length-map, length-set, get_or-eq_default, get_or-set_same, get_or-set_other, eq-eqb, ne_eqb, counted, listed, entry, less, pos, ◌+ℤ◌, ◌-ℤ◌, gathered, total, total_ℤ, take, length-take-le, get_or-take}
use Rattle.numbers.proofs.Sums.{Addition, naturals, total_last, total-map, total_kept, total_difference, measured}
use Rattle.numbers.proofs.Changed.{read_at}
use Rattle.numbers.proofs.Tests.{same_or_not, below_or_not}
use Rattle.numbers.proofs.Under.{under_within}

-- the numbers from a on, n of them
pub counted-length : (a n : ℕ) → length (counted a n) ≡ n
unfolding counted
counted-length a zero = refl
counted-length a (suc n) = ap suc (counted-length (suc a) n)

pub counted_at : (a n i d : ℕ) → i < n → get_or (counted a n) i d ≡ a + i
unfolding counted
counted_at a zero i d h = absurd (not-suc-le-zero h)
counted_at a (suc n) zero d h = sym (add-zero a)
counted_at a (suc n) (suc i) d h = counted_at (suc a) n i d (le_of_suc-le-suc h) ∙ omega arith

pub counted_more : (a n : ℕ) → counted a (suc n) ≡ counted a n ++ ((a + n) ∷ [])
unfolding counted
counted_more a zero = ap (λ (m : ℕ). m ∷ []) (sym (add-zero a))
counted_more a (suc n) = ap (λ (ms : List ℕ). a ∷ ms) (counted_more (suc a) n ∙ ap (λ (m : ℕ). counted (suc a) n ++ (m ∷ [])) (omega arith))

-- past its end a list has nothing
pub get_d_past : {A : Type 0} (xs : List A) (i : ℕ) (d : A) → length xs ≤ i → get_or xs i d ≡ d
get_d_past xs i d h = get_or-eq_default xs d h

-- the first number and the others
counted_shift : {A : Type 0} (f : ℕ → A) (a n : ℕ) → map f (counted (suc a) n) ≡ map (λ (i : ℕ). f (suc i)) (counted a n)
unfolding counted
counted_shift f a zero = refl
counted_shift {A = A} f a (suc n) = ap (λ (xs : List A). f (suc a) ∷ xs) (counted_shift f (suc a) n)

-- lists that hold the same at each number
counted_same : {A : Type 0} (f g : ℕ → A) (a n : ℕ) → ((i : ℕ) → i < a + n → f i ≡ g i) → map f (counted a n) ≡ map g (counted a n)
unfolding counted
counted_same f g a zero h = refl
counted_same f g a (suc n) h = ap₂ ◌∷◌ (h a (omega arith)) (counted_same f g (suc a) n (λ i l. h i (omega (arith, l))))

pub listed_same : {A : Type 0} (n : ℕ) (f g : ℕ → A) → ((i : ℕ) → i < n → f i ≡ g i) → listed n f ≡ listed n g
listed_same n f g h = counted_same f g 0 n (λ i l. h i (omega (arith, l)))

-- a list holds its entries
pub listed_entries : {A : Type 0} (xs : List A) (d : A) → listed (length xs) (λ (i : ℕ). get_or xs i d) ≡ xs
unfolding counted
listed_entries [] d = refl
listed_entries {A = A} (x ∷ xs) d = ap (λ (ys : List A). x ∷ ys) (counted_shift (λ (i : ℕ). get_or (x ∷ xs) i d) 0 (length xs) ∙ listed_entries xs d)

-- so does a list of n entries that are known
pub listed_known : {A : Type 0} (n : ℕ) (xs : List A) (d : A) (f : ℕ → A) → length xs ≡ n → ((i : ℕ) → i < n → get_or xs i d ≡ f i) → xs ≡ listed n f
listed_known n xs d f long same =
    sym (listed_entries xs d) ∙ ap (λ (m : ℕ). listed m (λ (i : ℕ). get_or xs i d)) long ∙ listed_same n _ f same

-- and what is read of them
pub listed_read : {A B : Type 0} (f : A → B) (xs : List A) (d : A) → listed (length xs) (λ (i : ℕ). f (get_or xs i d)) ≡ map f xs
listed_read f xs d = sym (map-map f (λ (i : ℕ). get_or xs i d) (counted 0 (length xs))) ∙ ap (map f) (listed_entries xs d)

-- of the first n of them
pub listed_front : {A B : Type 0} (f : A → B) (xs : List A) (d : A) (n : ℕ) → n ≤ length xs → listed n (λ (i : ℕ). f (get_or xs i d)) ≡ map f (take n xs)
listed_front f xs d n h =
    listed_same n _ _ (λ i l. ap f (sym (get_or-take n xs i d l)))
    ∙ ap (λ (m : ℕ). listed m (λ (i : ℕ). f (get_or (take n xs) i d))) (sym (length-take-le n xs h))
    ∙ listed_read f (take n xs) d

module _ {A : Type 0} (n : ℕ) (f : ℕ → A) where
  -- one entry more
  pub listed_more : listed (suc n) f ≡ listed n f ++ (f n ∷ [])
  listed_more = ap (map f) (counted_more 0 n) ∙ map-append f (counted 0 n) ((0 + n) ∷ []) ∙ ap (λ (j : ℕ). listed n f ++ (f j ∷ [])) (zero-add n)

  pub listed-length : length (listed n f) ≡ n
  listed-length = length-map (counted 0 n) f ∙ counted-length 0 n

  pub listed_at : (i : ℕ) (d : A) → i < n → get_or (listed n f) i d ≡ f i
  listed_at i d h =
      read_at f (counted 0 n) i 0 d (omega (arith, counted-length 0 n))
      ∙ ap f (counted_at 0 n i 0 h ∙ zero-add i)

  pub listed_past : (i : ℕ) (d : A) → n ≤ i → get_or (listed n f) i d ≡ d
  listed_past i d h = get_d_past (listed n f) i d (omega (arith, listed-length, h))

-- an entry is written after those that stay, or in the place of one of them
module _ {A : Type 0} (n : ℕ) (f g : ℕ → A) (x : A) where
  pub listed_next : ((i : ℕ) → i < n → g i ≡ f i) → g n ≡ x → listed (n + 1) g ≡ listed n f ++ (x ∷ [])
  listed_next same new =
      ap (λ (m : ℕ). listed m g) (add-one n) ∙ listed_more n g ∙ ap₂ (λ (ys : List A) (y : A). ys ++ (y ∷ [])) (listed_same n g f same) new

  pub listed-set : (p : ℕ) → p < n → ((i : ℕ) → i < n → (i ≡ p → ⊥) → g i ≡ f i) → g p ≡ x → set (listed n f) p x ≡ listed n g
  listed-set p h same new =
      listed_known n (set (listed n f) p x) x g (length-set (listed n f) p x ∙ listed-length n f)
      (λ i l.
      ⊎_elim
      (λ (e : i ≡ p). ap (λ (j : ℕ). get_or (set (listed n f) p x) j x) e ∙ get_or-set_same (listed n f) p x x (omega (arith, h, listed-length n f)) ∙ sym new ∙ ap g (sym e))
      (λ (e : i ≡ p → ⊥). get_or-set_other (listed n f) p i x x e ∙ listed_at n f i x l ∙ sym (same i l e))
      (same_or_not i p))

-- what is left of an entry when some of it is taken
pub less_at : (xs ys : List ℕ) (i : ℕ) → entry (less xs ys) i ≡ entry xs i - entry ys i
less_at xs ys i =
    ⊎_elim (λ (h : i < length xs). listed_at (length xs) _ i 0 h)
    (λ (h : length xs ≤ i). listed_past (length xs) _ i 0 h ∙ omega (arith, get_d_past xs i 0 h))
    (below_or_not i (length xs))

-- what is left of a list when some of each entry is taken, once or more often: it is as long, and no entry is larger
pub record Left (all left : List ℕ) : Type 0 where
  pub long : length left ≡ length all
  pub within : (i : ℕ) → entry left i ≤ entry all i

pub left_all : (all : List ℕ) → Left all all
left_all all = record { long = refl; within = λ i. omega arith }

pub left_less : (all left taken : List ℕ) → Left all left → Left all (less left taken)
left_less all left taken h = record { long = listed-length (length left) _ ∙ h.long; within = λ i. omega (arith, less_at left taken i, h.within i) }

-- no entry of what is listed is more than a limit at each number
pub listed_most : (n : ℕ) (f g : ℕ → ℕ) → ((i : ℕ) → f i ≤ g i) → (i : ℕ) → entry (listed n f) i ≤ g i
listed_most n f g le i =
    ⊎_elim (λ (h : i < n). omega (arith, le i, listed_at n f i 0 h)) (λ (h : n ≤ i). omega (arith, listed_past n f i 0 h)) (below_or_not i n)

-- and what is listed under a test no more than what is read there
pub listed_under : (n : ℕ) (test : ℕ → Bool) (f : ℕ → ℕ) (i : ℕ) → entry (listed n (λ (j : ℕ). cond (test j) (f j) 0)) i ≤ f i
listed_under n test f = listed_most n (λ (j : ℕ). cond (test j) (f j) 0) f (λ i. under_within (test i) (f i))

-- what is read where two numbers are the same, and where they are not
module _ {A : Type 0} (i j : ℕ) (x y : A) where
  pub chosen_yes : i ≡ j → cond (eqb i j) x y ≡ x
  chosen_yes e = ap (λ (t : Bool). cond t x y) (eq-eqb i j e)

  pub chosen_no : (i ≡ j → ⊥) → cond (eqb i j) x y ≡ y
  chosen_no e = ap (λ (t : Bool). cond t x y) (ne_eqb i j e)

module _ {A : Type 0} (join : A → A → A) (none : A) (add : Addition join none) where
  -- one number more
  pub sum_more : (n : ℕ) (f : ℕ → A) → gathered join none (listed (suc n) f) ≡ join (gathered join none (listed n f)) (f n)
  sum_more n f =
      ap (λ (ms : List ℕ). gathered join none (map f ms)) (counted_more 0 n)
      ∙ total_last join none add f (counted 0 n) (0 + n)
      ∙ ap (λ (m : ℕ). join (gathered join none (listed n f)) (f m)) (zero-add n)

  -- equal at each number
  pub sum_same : (n : ℕ) (f g : ℕ → A) → ((i : ℕ) → i < n → f i ≡ g i) → gathered join none (listed n f) ≡ gathered join none (listed n g)
  unfolding counted gathered
  sum_same zero f g e = refl
  sum_same (suc n) f g e =
      sum_more n f ∙ ap₂ join (sum_same n f g (λ i h. e i (omega arith))) (e n (omega arith)) ∙ sym (sum_more n g)

  -- nothing at each number
  pub sum_nothing : (n : ℕ) (f : ℕ → A) → ((i : ℕ) → i < n → f i ≡ none) → gathered join none (listed n f) ≡ none
  unfolding counted gathered
  sum_nothing zero f e = refl
  sum_nothing (suc n) f e = sum_more n f ∙ ap₂ join (sum_nothing n f (λ i h. e i (omega arith))) (e n (omega arith)) ∙ add.unit none

  -- two readings added at each number
  pub sum_both : (n : ℕ) (f g : ℕ → A) → gathered join none (listed n (λ (i : ℕ). join (f i) (g i))) ≡ join (gathered join none (listed n f)) (gathered join none (listed n g))
  sum_both n f g = total-map join none add f g (counted 0 n)

  -- a reading by two numbers, summed in either order
  pub sum_swapped : (n m : ℕ) (f : ℕ → ℕ → A)
      → gathered join none (listed n (λ (i : ℕ). gathered join none (listed m (f i)))) ≡ gathered join none (listed m (λ (c : ℕ). gathered join none (listed n (λ (i : ℕ). f i c))))
  unfolding counted gathered
  sum_swapped zero m f = sym (sum_nothing m (λ (c : ℕ). none) (λ c h. refl))
  sum_swapped (suc n) m f =
      sum_more n (λ (i : ℕ). gathered join none (listed m (f i)))
      ∙ ap (λ (x : A). join x (gathered join none (listed m (f n)))) (sum_swapped n m f)
      ∙ sym (sum_both m (λ (c : ℕ). gathered join none (listed n (λ (i : ℕ). f i c))) (f n))
      ∙ sum_same m _ _ (λ c h. sym (sum_more n (λ (i : ℕ). f i c)))

  -- of what is read at one number only
  pub sum_one : (n j : ℕ) (x : A) → j < n → gathered join none (listed n (λ (i : ℕ). cond (eqb j i) x none)) ≡ x
  unfolding counted gathered
  sum_one zero j x h = absurd (not-suc-le-zero h)
  sum_one (suc n) j x h =
      sum_more n (λ (i : ℕ). cond (eqb j i) x none)
      ∙ ⊎_elim
      (λ e. ap₂ join (sum_nothing n _ (λ i k. chosen_no j i x none (λ s. absurd (omega (arith, s, e, k))))) (chosen_yes j n x none e) ∙ add.unit x)
      (λ e. ap₂ join (sum_one n j x (omega (arith, e))) (chosen_no j n x none e) ∙ add.comm x none ∙ add.unit x)
      (same_or_not j n)

  last_two : (x y z : A) → join (join x y) z ≡ join (join x z) y
  last_two x y z = add.assoc x y z ∙ ap (join x) (add.comm y z) ∙ sym (add.assoc x z y)

  -- of two readings that differ at one number only
  pub sum_apart : (n : ℕ) (f g : ℕ → A) (j : ℕ) → j < n → ((i : ℕ) → i < n → (i ≡ j → ⊥) → f i ≡ g i) → join (gathered join none (listed n g)) (f j) ≡ join (gathered join none (listed n f)) (g j)
  sum_apart zero f g j h same = absurd (not-suc-le-zero h)
  sum_apart (suc n) f g j h same =
      ap (λ (a : A). join a (f j)) (sum_more n g)
      ∙ ⊎_elim
      (λ (e : j ≡ n).
      ap₂ (λ (a b : A). join (join a b) (f j)) (sym (sum_same n f g (λ i l. same i (omega arith) (λ s. absurd (omega (arith, l, s, e)))))) (ap g (sym e))
      ∙ last_two (gathered join none (listed n f)) (g j) (f j)
      ∙ ap (λ (m : ℕ). join (join (gathered join none (listed n f)) (f m)) (g j)) e)
      (λ (e : j ≡ n → ⊥).
      ap (λ (b : A). join (join (gathered join none (listed n g)) b) (f j)) (sym (same n (omega arith) (λ s. e (sym s))))
      ∙ last_two (gathered join none (listed n g)) (f n) (f j)
      ∙ ap (λ (a : A). join a (f n)) (sum_apart n f g j (omega (arith, h, e)) (λ i l. same i (omega arith)))
      ∙ last_two (gathered join none (listed n f)) (g j) (f n))
      (same_or_not j n)
      ∙ ap (λ (a : A). join a (g j)) (sym (sum_more n f))

  -- of what is read of the entries of a list by number, when one of them changes
  pub sum_changed : {B : Type 0} (read : ℕ → B → A) (xs : List B) (d : B) (i : ℕ) (y : B) (n : ℕ) → i < n → n ≤ length xs
      → join (gathered join none (listed n (λ (j : ℕ). read j (get_or (set xs i y) j d)))) (read i (get_or xs i d)) ≡ join (gathered join none (listed n (λ (j : ℕ). read j (get_or xs j d)))) (read i y)
  sum_changed {B = B} read xs d i y n h k =
      sum_apart n (λ (j : ℕ). read j (get_or xs j d)) (λ (j : ℕ). read j (get_or (set xs i y) j d)) i h (λ j l e. ap (read j) (sym (get_or-set_other xs i j y d e)))
      ∙ ap (λ (x : B). join (gathered join none (listed n (λ (j : ℕ). read j (get_or xs j d)))) (read i x)) (get_or-set_same xs i y d (omega (arith, h, k)))

  -- under a test that does not depend on the number
  pub sum_under : (n : ℕ) (t : Bool) (f : ℕ → A) → gathered join none (listed n (λ (i : ℕ). cond t (f i) none)) ≡ cond t (gathered join none (listed n f)) none
  sum_under n true f = refl
  sum_under n false f = sum_nothing n _ (λ i h. refl)

  -- by classes: what is read at each number counts in the class that its key names
  pub sum_classes : (n m : ℕ) (key : ℕ → ℕ) (f : ℕ → A) → ((i : ℕ) → i < n → key i < m)
      → gathered join none (listed m (λ (c : ℕ). gathered join none (listed n (λ (i : ℕ). cond (eqb (key i) c) (f i) none)))) ≡ gathered join none (listed n f)
  sum_classes n m key f below =
      sym (sum_swapped n m (λ (i c : ℕ). cond (eqb (key i) c) (f i) none))
      ∙ sum_same n _ f (λ i h. sum_one m (key i) (f i) (below i h))

-- sums of natural numbers are ordered as what they sum
pub sum_within : (n : ℕ) (f g : ℕ → ℕ) → ((i : ℕ) → i < n → f i ≤ g i) → total (listed n f) ≤ total (listed n g)
unfolding counted gathered
sum_within zero f g le = omega arith
sum_within (suc n) f g le =
    omega (arith, sum_more ◌+◌ 0 naturals n f, sum_more ◌+◌ 0 naturals n g, sum_within n f g (λ i h. le i (omega arith)), le n (omega arith))

-- what is read at m numbers in a row: from one number on and from the next, the sums differ by the first and the last
pub sum_moved : (m n : ℕ) (f : ℕ → ℕ) → total (listed m (λ (i : ℕ). f (suc n + i))) + f n ≡ total (listed m (λ (i : ℕ). f (n + i))) + f (n + m)
unfolding counted gathered
sum_moved zero n f = ap (λ (k : ℕ). 0 + f k) (sym (add-zero n))
sum_moved (suc m) n f =
    let moved = sum_more ◌+◌ 0 naturals m (λ (i : ℕ). f (suc n + i)) in
    let here = sum_more ◌+◌ 0 naturals m (λ (i : ℕ). f (n + i)) in
    let last : f (suc n + m) ≡ f (n + suc m) = ap f (omega arith) in
    omega (arith, moved, here, last, sum_moved m n f)

-- one of them is at most the sum
pub sum_part : (n : ℕ) (f : ℕ → ℕ) (j : ℕ) → j < n → f j ≤ total (listed n f)
unfolding counted gathered
sum_part zero f j h = absurd (not-suc-le-zero h)
sum_part (suc n) f j h =
    let more = sum_more ◌+◌ 0 naturals n f in
    ⊎_elim (λ e. omega (arith, more, ap f e)) (λ e. omega (arith, more, sum_part n f j (omega (arith, e)))) (same_or_not j n)

-- a list's sum is that of its entries by number
pub total_entries : (xs : List ℕ) → total (listed (length xs) (entry xs)) ≡ total xs
total_entries xs = ap total (listed_entries xs 0)

-- of a list whose length is known
pub total_long : (xs : List ℕ) (n : ℕ) → length xs ≡ n → total (listed n (entry xs)) ≡ total xs
total_long xs n long = ap (λ (m : ℕ). total (listed m (entry xs))) (sym long) ∙ total_entries xs

-- where a sum is 0, each of what it sums is
pub sum_empty : (n : ℕ) (f : ℕ → ℕ) → total (listed n f) ≡ 0 → (i : ℕ) → i < n → f i ≡ 0
sum_empty n f e i h = omega (arith, e, sum_part n f i h)

-- sums of what is read of the entries of a list
module _ {A : Type 0} (f : A → ℕ) (d : A) (xs : List A) where
  -- what is read of one entry is at most the sum
  pub total_part : (i : ℕ) → i < length xs → f (get_or xs i d) ≤ total (map f xs)
  total_part i h = omega (arith, ap total (listed_read f xs d), sum_part (length xs) (λ (j : ℕ). f (get_or xs j d)) i h)

  -- where nothing is read of any, the sum is 0
  pub total_nothing : ((i : ℕ) → i < length xs → f (get_or xs i d) ≡ 0) → total (map f xs) ≡ 0
  total_nothing none = sym (ap total (listed_read f xs d)) ∙ sum_nothing ◌+◌ 0 naturals (length xs) _ none

-- a measure of lists that adds up over an append, of the lists that n entries and one more stand for
pub measured_last : {A B : Type 0} (measure : List B → ℕ) → measure [] ≡ 0 → ((xs ys : List B) → measure (xs ++ ys) ≡ measure xs + measure ys) → (g : A → List B) (n : ℕ) (f : ℕ → A) (y : A)
    → measure (flat_map g (listed n f ++ (y ∷ []))) ≡ total (listed n (λ (i : ℕ). measure (g (f i)))) + measure (g y)
measured_last {A = A} measure none joined g n f y =
    let m : A → ℕ = λ (x : A). measure (g x) in
    measured measure none joined g (listed n f ++ (y ∷ []))
    ∙ total_last ◌+◌ 0 naturals m (listed n f) y
    ∙ ap (λ (xs : List ℕ). total xs + m y) (map-map m f (counted 0 n))

-- a sum of differences of natural numbers
pub sum_difference : (n : ℕ) (f g : ℕ → ℕ) → total_ℤ (listed n (λ (i : ℕ). pos (f i) -ℤ pos (g i))) ≡ pos (total (listed n f)) -ℤ pos (total (listed n g))
sum_difference n f g =
    total_difference (λ (i : ℕ). pos (f i)) (λ (i : ℕ). pos (g i)) (counted 0 n) ∙ ap₂ ◌-ℤ◌ (of_wholes f) (of_wholes g)
  where
    of_wholes : (h : ℕ → ℕ) → total_ℤ (map (λ (i : ℕ). pos (h i)) (counted 0 n)) ≡ pos (total (listed n h))
    of_wholes h = sym (ap total_ℤ (map-map pos h (counted 0 n))) ∙ total_kept ◌+◌ 0 ◌+ℤ◌ (pos 0) pos refl (λ (x y : ℕ). refl) (listed n h)
