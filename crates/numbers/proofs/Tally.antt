-- Entries added up by class in one walk: entry e of the tally is the sum of what the first k numbers have in class e, from nothing or onto what is there.
use Rattle.numbers.proofs.Words.{ℕ, zero, suc, ◌+◌, ◌*◌, ◌≤◌, ◌<◌, add-one, arith, ◌≡◌, refl, sym, ap, ap₂, ◌∙◌, Bool, true, false, cond, eqb, List, length, get_or, set, replicate, length-replicate, get_or-replicate, ⊎_elim, counted, listed, gathered}
use Rattle.numbers.proofs.Sums.{Addition}
use Rattle.numbers.proofs.Ranges.{listed-length, listed_at, listed_past, listed_same, listed_known, listed-set, chosen_yes, chosen_no, sum_more}
use Rattle.numbers.proofs.Tests.{below_or_not}

module _ {A : Type 0} (join : A → A → A) (none : A) (add : Addition join none) (class_of : ℕ → ℕ) (has : ℕ → A) (n : ℕ) where
  abbrev pub in_class : ℕ → ℕ → A
  in_class k e = gathered join none (listed k (λ (j : ℕ). cond (eqb (class_of j) e) (has j) none))

  abbrev pub tally : ℕ → List A
  tally k = listed n (in_class k)

  -- nothing yet
  pub tally_none : replicate n none ≡ tally 0
  unfolding counted gathered
  tally_none = listed_known n (replicate n none) none (in_class 0) (length-replicate n none) (λ e h. get_or-replicate n e none none h)

  pub tally_length : (k : ℕ) → length (tally k) ≡ n
  tally_length k = listed-length n (in_class k)

  pub tally_at : (k e : ℕ) → e < n → get_or (tally k) e none ≡ in_class k e
  tally_at k e h = listed_at n (in_class k) e none h

  -- one number more: what it has is added to the entry of its class, and nothing to the others
  class_more : (k e : ℕ) → in_class (k + 1) e ≡ join (in_class k e) (cond (eqb (class_of k) e) (has k) none)
  class_more k e = ap (λ (m : ℕ). in_class m e) (add-one k) ∙ sum_more join none add k (λ (j : ℕ). cond (eqb (class_of j) e) (has j) none)

  added : (f : ℕ → A) (k : ℕ) (x : A) → class_of k < n → x ≡ join (get_or (listed n f) (class_of k) none) (has k) → set (listed n f) (class_of k) x ≡ listed n (λ (e : ℕ). join (f e) (cond (eqb (class_of k) e) (has k) none))
  added f k x h is =
      listed-set n f _ x (class_of k) h
      (λ e l other. ap (join (f e)) (chosen_no (class_of k) e (has k) none (λ s. other (sym s))) ∙ add.comm (f e) none ∙ add.unit (f e))
      (ap₂ join (sym (listed_at n f (class_of k) none h)) (chosen_yes (class_of k) (class_of k) (has k) none refl) ∙ sym is)

  pub tally_next : (k : ℕ) (x : A) → class_of k < n → x ≡ join (get_or (tally k) (class_of k) none) (has k) → set (tally k) (class_of k) x ≡ tally (k + 1)
  tally_next k x h is = added (in_class k) k x h is ∙ listed_same n _ _ (λ e l. sym (class_more k e))

  -- the same onto entries that are there already
  module _ (was : List A) where
    abbrev pub onto : ℕ → List A
    onto k = listed n (λ (e : ℕ). join (get_or was e none) (in_class k e))

    pub onto_none : length was ≡ n → was ≡ onto 0
    unfolding counted gathered
    onto_none long = listed_known n was none _ long (λ e h. sym (add.comm (get_or was e none) none ∙ add.unit (get_or was e none)))

    pub onto_next : (k : ℕ) (x : A) → class_of k < n → x ≡ join (get_or (onto k) (class_of k) none) (has k) → set (onto k) (class_of k) x ≡ onto (k + 1)
    onto_next k x h is =
        added (λ (e : ℕ). join (get_or was e none) (in_class k e)) k x h is
        ∙ listed_same n _ _ (λ e l. add.assoc (get_or was e none) (in_class k e) _ ∙ sym (ap (join (get_or was e none)) (class_more k e)))

  -- where no number has more than a limit, no entry has more than that for each number passed
  module _ (size : A → ℕ) (nothing : size none ≡ 0) (adds : (x y : A) → size (join x y) ≤ size x + size y) (limit : ℕ) (small : (j : ℕ) → size (has j) ≤ limit) where
    one_within : (t : Bool) (j : ℕ) → size (cond t (has j) none) ≤ limit
    one_within true j = small j
    one_within false j = omega (arith, nothing)

    class_within : (k e : ℕ) → size (in_class k e) ≤ limit * k
    unfolding counted gathered
    class_within zero e = omega (arith, nothing)
    class_within (suc k) e =
        let one = cond (eqb (class_of k) e) (has k) none in
        omega (
          arith,
          ap size (sum_more join none add k (λ (j : ℕ). cond (eqb (class_of j) e) (has j) none)),
          adds (in_class k e) one,
          class_within k e,
          one_within (eqb (class_of k) e) k,
        )

    each_within : (f : ℕ → A) (most : ℕ) → ((e : ℕ) → size (f e) ≤ most) → (e : ℕ) → size (get_or (listed n f) e none) ≤ most
    each_within f most le e =
        ⊎_elim (λ (h : e < n). omega (arith, ap size (listed_at n f e none h), le e))
        (λ (h : n ≤ e). omega (arith, ap size (listed_past n f e none h), nothing))
        (below_or_not e n)

    pub tally_within : (k e : ℕ) → size (get_or (tally k) e none) ≤ limit * k
    tally_within k = each_within (in_class k) (limit * k) (class_within k)

    pub onto_within : (was : List A) (most : ℕ) → ((e : ℕ) → size (get_or was e none) ≤ most) → (k e : ℕ) → size (get_or (onto was k) e none) ≤ most + limit * k
    onto_within was most le k = each_within _ (most + limit * k) (λ e. omega (arith, adds (get_or was e none) (in_class k e), le e, class_within k e))
