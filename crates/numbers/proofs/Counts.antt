-- How many of the numbers below n pass a test, and at how many of them more than 0 is read.
use Rattle.numbers.proofs.Words.{ℕ, zero, suc, ◌+◌, ◌-◌, ◌≤◌, ◌<◌, min, not-suc-le-zero, arith, ◌≡◌, refl, sym, ap, ◌∙◌, Bool, true, false, cond, ◌||◌, false≢true, List, [], ◌∷◌, ⊎_elim, eqb, ltb, length, get_or, set, length-set, ltb-true, lt-ltb, le-ltb, eqb-true, ◌and◌, some, counted, listed, entry, gathered, total, many}
use Rattle.numbers.proofs.Sums.{naturals}
use Rattle.numbers.proofs.Ranges.{sum_more, sum_same, sum_nothing, sum_both, sum_apart, sum_changed, sum_classes, sum_within, sum_empty}
use Rattle.numbers.proofs.Entries.{entry_place}
use Rattle.numbers.proofs.Tests.{both, below_or_not, same_or_not}
use Rattle.numbers.proofs.Under.{under_within, under_follows, under_none, under_two, under_swapped, above_under}

-- a test counts 1 where it passes
abbrev pub one : Bool → ℕ
one t = cond t 1 0

-- at how many of the numbers below n more than 0 is read
abbrev pub live : ℕ → (ℕ → ℕ) → ℕ
live n f = many n (λ (i : ℕ). ltb 0 (f i))

-- a number above 0 counts 1
pub one_above : (x : ℕ) → one (ltb 0 x) ≡ min x 1
one_above x = ⊎_elim (λ (h : 0 < x). ap one (lt-ltb 0 x h) ∙ omega (arith, h)) (λ (h : x ≤ 0). ap one (le-ltb 0 x h) ∙ omega (arith, h)) (below_or_not 0 x)

-- one number more
pub many_more : (n : ℕ) (s : ℕ → Bool) → many (suc n) s ≡ many n s + one (s n)
unfolding many
many_more n s = sum_more ◌+◌ 0 naturals n (λ (i : ℕ). one (s i))

-- no more numbers pass than there are
pub many_most : (n : ℕ) (s : ℕ → Bool) → many n s ≤ n
unfolding counted gathered many
many_most zero s = omega arith
many_most (suc n) s = omega (arith, many_more n s, many_most n s, under_within (s n) 1)

-- a count above 0 has a number that passes the test
pub many-some : (n : ℕ) (s : ℕ → Bool) → 0 < many n s → (k : ℕ) × (k < n) × (s k ≡ true)
unfolding many counted gathered
many-some zero s h = absurd (not-suc-le-zero h)
many-some (suc n) s h = go (s n) refl (λ (l : 0 < many n s). many-some n s l)
  where
    go : (t : Bool) → s n ≡ t → (0 < many n s → (k : ℕ) × (k < n) × (s k ≡ true)) → (k : ℕ) × (k < suc n) × (s k ≡ true)
    go true e rest = (n, omega arith, e)
    go false e rest = let it = rest (omega (arith, h, many_more n s, ap one e)) in (it.0, omega (arith, it.1), it.2)

-- and a number that does not pass it leaves the count below n
pub many_fewer : (n : ℕ) (s : ℕ → Bool) (j : ℕ) → j < n → s j ≡ false → many n s + 1 ≤ n
many_fewer zero s j h e = absurd (not-suc-le-zero h)
many_fewer (suc n) s j h e =
    ⊎_elim (λ (i : j ≡ n). omega (arith, many_more n s, many_most n s, ap one (ap s (sym i) ∙ e)))
    (λ i. omega (arith, many_more n s, many_fewer n s j (omega (arith, h, i)) e, under_within (s n) 1))
    (same_or_not j n)

module _ (n : ℕ) (s t : ℕ → Bool) where
  -- tests that agree
  pub many-same : ((i : ℕ) → i < n → s i ≡ t i) → many n s ≡ many n t
  unfolding many
  many-same same = sum_same ◌+◌ 0 naturals n _ _ (λ i h. ap one (same i h))

  -- a test that follows from another
  pub many_within : ((i : ℕ) → i < n → s i ≡ true → t i ≡ true) → many n s ≤ many n t
  unfolding many
  many_within follows = sum_within n _ _ (λ i h. under_follows (s i) (t i) 1 (follows i h))

-- a test that never passes
pub many_nowhere : (n : ℕ) (s : ℕ → Bool) → ((i : ℕ) → i < n → s i ≡ true → ⊥) → many n s ≡ 0
unfolding many
many_nowhere n s never = sum_nothing ◌+◌ 0 naturals n _ (λ i h. under_none (s i) 1 (λ e. absurd (never i h e)))

-- one of two tests
many_either : (n : ℕ) (s t : ℕ → Bool) → many n (λ (i : ℕ). s i || t i) ≤ many n s + many n t
unfolding many
many_either n s t =
    let each = sum_within n (λ (i : ℕ). one (s i || t i)) (λ (i : ℕ). one (s i) + one (t i)) (λ i h. either (s i) (t i)) in
    omega (arith, each, sum_both ◌+◌ 0 naturals n (λ (i : ℕ). one (s i)) (λ (i : ℕ). one (t i)))
  where
    either : (a b : Bool) → one (a || b) ≤ one a + one b
    either true b = omega arith
    either false b = omega arith

-- readings that are all different: at most one is a given number, and at most as many as a list has entries are among them
many_once : (n : ℕ) (f : ℕ → ℕ) (c : ℕ) → ((i j : ℕ) → i < j → j < n → f i ≡ f j → ⊥) → many n (λ (i : ℕ). eqb (f i) c) ≤ 1
unfolding many counted gathered
many_once zero f c different = omega arith
many_once (suc n) f c different = go (eqb (f n) c) refl (many_once n f c (λ i j h k. different i j h (omega arith)))
  where
    more : many (suc n) (λ (i : ℕ). eqb (f i) c) ≡ many n (λ (i : ℕ). eqb (f i) c) + one (eqb (f n) c)
    more = many_more n (λ (i : ℕ). eqb (f i) c)

    go : (t : Bool) → eqb (f n) c ≡ t → many n (λ (i : ℕ). eqb (f i) c) ≤ 1 → many (suc n) (λ (i : ℕ). eqb (f i) c) ≤ 1
    go true e before =
        let none = many_nowhere n (λ (i : ℕ). eqb (f i) c) (λ i h k. different i n h (omega arith) (eqb-true (f i) c k ∙ sym (eqb-true (f n) c e))) in
        omega (arith, more, none, ap one e)
    go false e before = omega (arith, more, ap one e, before)

pub many_among : (n : ℕ) (f : ℕ → ℕ) → ((i j : ℕ) → i < j → j < n → f i ≡ f j → ⊥) → (xs : List ℕ) → many n (λ (i : ℕ). some (eqb (f i)) xs) ≤ length xs
unfolding some
many_among n f different [] = omega (arith, many_nowhere n (λ (i : ℕ). false) (λ i h e. absurd (false≢true e)))
many_among n f different (x ∷ xs) =
    omega (arith, many_either n (λ (i : ℕ). eqb (f i) x) (λ (i : ℕ). some (eqb (f i)) xs), many_once n f x different, many_among n f different xs)

-- by classes
pub many_classes : (n m : ℕ) (key : ℕ → ℕ) (s : ℕ → Bool) → ((i : ℕ) → i < n → key i < m) → total (listed m (λ (c : ℕ). many n (λ (i : ℕ). eqb (key i) c and s i))) ≡ many n s
unfolding many
many_classes n m key s below =
    sum_same ◌+◌ 0 naturals m _ _ (λ c h. sum_same ◌+◌ 0 naturals n _ _ (λ i k. under_two (eqb (key i) c) (s i) 1 ∙ under_swapped (s i) (eqb (key i) c) 1))
    ∙ sum_classes ◌+◌ 0 naturals n m key (λ (i : ℕ). one (s i)) below

module _ (n : ℕ) (f : ℕ → ℕ) where
  -- where none is above 0, each is 0, and the other way round
  pub live_empty : live n f ≡ 0 → (i : ℕ) → i < n → f i ≡ 0
  unfolding many
  live_empty e i h = omega (arith, one_above (f i), sum_empty n (λ (j : ℕ). one (ltb 0 (f j))) e i h)

  pub live_nothing : ((i : ℕ) → i < n → f i ≡ 0) → live n f ≡ 0
  live_nothing none = many_nowhere n _ (λ i h e. omega (arith, none i h, ltb-true 0 (f i) e))

  -- where the sum is above 0, one of them is
  pub live_some : 0 < total (listed n f) → 0 < live n f
  live_some h =
      ⊎_elim (λ (k : 0 < live n f). k) (λ (k : live n f ≤ 0). absurd (omega (arith, h, sum_nothing ◌+◌ 0 naturals n f (live_empty (omega (arith, k)))))) (below_or_not 0 (live n f))

  -- another reading that differs at one number only
  pub live_apart : (g : ℕ → ℕ) (j : ℕ) → j < n → ((i : ℕ) → i < n → (i ≡ j → ⊥) → f i ≡ g i) → live n g + one (ltb 0 (f j)) ≡ live n f + one (ltb 0 (g j))
  unfolding many
  live_apart g j h same = sum_apart ◌+◌ 0 naturals n (λ (i : ℕ). one (ltb 0 (f i))) (λ (i : ℕ). one (ltb 0 (g i))) j h (λ i l e. ap (λ (x : ℕ). one (ltb 0 x)) (same i l e))

-- what is read of the entries of a list, one of them changed
pub live_set : {A : Type 0} (read : A → ℕ) (xs : List A) (d : A) (j : ℕ) (y : A) (n : ℕ) → j < n → n ≤ length xs
    → live n (λ (i : ℕ). read (get_or (set xs j y) i d)) + one (ltb 0 (read (get_or xs j d))) ≡ live n (λ (i : ℕ). read (get_or xs i d)) + one (ltb 0 (read y))
unfolding many
live_set {A = A} read xs d j y n h k = sum_changed ◌+◌ 0 naturals (λ (i : ℕ) (x : A). one (ltb 0 (read x))) xs d j y n h k

-- some is taken off one entry of a list
pub live_off : (xs : List ℕ) (i some : ℕ) → 0 < some → some ≤ entry xs i
    → live (length (set xs i (entry xs i - some))) (entry (set xs i (entry xs i - some))) + 1 ≡ live (length xs) (entry xs) + min (entry xs i - some) 1
live_off xs i some above within =
    let y = entry xs i - some in
    rw (length-set xs i y) (omega (arith, above, within, one_above (entry xs i), one_above y, live_set (λ (v : ℕ). v) xs 0 i y (length xs) (entry_place xs i (omega (arith, above, within))) (omega arith)))

-- of two numbers: each of them, their sum, and both
one_sum : (x y : ℕ) → one (ltb 0 x) + one (ltb 0 y) ≡ one (ltb 0 (x + y)) + one (ltb 0 x and ltb 0 y)
one_sum x y =
    ⊎_elim (λ (h : 0 < x). rw (lt-ltb 0 x h, lt-ltb 0 (x + y) (omega (arith, h))) refl)
    (λ (h : x ≤ 0). let same : x + y ≡ y = omega (arith, h) in rw (le-ltb 0 x h, same) (omega arith))
    (below_or_not 0 x)

-- numbers in classes, by key, and two readings of each: how many of a class have the first, and how many both
module _ (n : ℕ) (key a b : ℕ → ℕ) where
  abbrev pub first_in : ℕ → ℕ
  first_in c = live n (λ (i : ℕ). cond (eqb (key i) c) (a i) 0)

  abbrev pub both_in : ℕ → ℕ
  both_in c = many n (λ (i : ℕ). eqb (key i) c and ltb 0 (a i) and ltb 0 (b i))

  -- those with the first and those with the second are those with either, and those with both once more; and so over all classes
  twice : live n a + live n b ≡ live n (λ (i : ℕ). a i + b i) + many n (λ (i : ℕ). ltb 0 (a i) and ltb 0 (b i))
  unfolding many
  twice =
      sym (sum_both ◌+◌ 0 naturals n (λ (i : ℕ). one (ltb 0 (a i))) (λ (i : ℕ). one (ltb 0 (b i))))
      ∙ sum_same ◌+◌ 0 naturals n _ _ (λ i h. one_sum (a i) (b i))
      ∙ sum_both ◌+◌ 0 naturals n (λ (i : ℕ). one (ltb 0 (a i + b i))) (λ (i : ℕ). one (ltb 0 (a i) and ltb 0 (b i)))

  pub in_classes : (m : ℕ) → ((i : ℕ) → i < n → key i < m) → total (listed m first_in) + live n b ≡ live n (λ (i : ℕ). a i + b i) + total (listed m both_in)
  in_classes m below =
      let first = sum_same ◌+◌ 0 naturals m first_in _ (λ c h. many-same n _ _ (λ i k. above_under (eqb (key i) c) (a i))) ∙ many_classes n m key (λ (i : ℕ). ltb 0 (a i)) below in
      omega (arith, first, many_classes n m key (λ (i : ℕ). ltb 0 (a i) and ltb 0 (b i)) below, twice)

  module _ (c : ℕ) where
    -- one that has both
    pub both_parts : (i : ℕ) → (eqb (key i) c and ltb 0 (a i) and ltb 0 (b i)) ≡ true → (key i ≡ c) × (0 < a i) × (0 < b i)
    both_parts i e =
        let first = both (eqb (key i) c) (ltb 0 (a i) and ltb 0 (b i)) e in
        let last = both (ltb 0 (a i)) (ltb 0 (b i)) first.1 in
        (eqb-true (key i) c first.0, ltb-true 0 (a i) last.0, ltb-true 0 (b i) last.1)

    -- they are no more than what passes a test that they pass, and none where that is absurd
    pub both_within : (t : ℕ → Bool) → ((i : ℕ) → i < n → key i ≡ c → 0 < a i → 0 < b i → t i ≡ true) → both_in c ≤ many n t
    both_within t follows = many_within n _ t (λ i h e. let p = both_parts i e in follows i h p.0 p.1 p.2)

    pub both_nowhere : ((i : ℕ) → i < n → key i ≡ c → 0 < a i → 0 < b i → ⊥) → both_in c ≡ 0
    both_nowhere never = many_nowhere n _ (λ i h e. let p = both_parts i e in never i h p.0 p.1 p.2)
