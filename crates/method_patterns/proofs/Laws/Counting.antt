-- Patterns counted one after the other by how they end.
use Rattle.numbers.proofs.Words.{ℕ, ◌+◌, ◌≤◌, add-one, arith, ◌≡◌, refl, sym, ap, ap₂, subst, ◌∙◌, Bool, true, false, not, ◌||◌, eqb, eqb-true, eqb-false, eq-eqb, ne_eqb, ◌and◌, counted, gathered, many}
use Rattle.numbers.proofs.Counts.{one, many_more, many_most}
use Rattle.rules.specs.declared.book.{Failures.Failures}
use Rattle.method_patterns.specs.Endings.{all_of, none_of, some_of, Counted}

abbrev more : Failures → ℕ → ℕ → Failures
more c own lots = record { full = c.full + one (all_of own lots); part = c.part + one (some_of own lots); none = c.none + one (none_of own lots) }

-- the ending of a pattern adds one to its own count alone (02, n, 2 and 3)
module _ (c : Failures) (own lots : ℕ) where
  abbrev more_by : Bool → Bool → Failures
  more_by all nothing = record { full = c.full + one all; part = c.part + one (not (all || nothing)); none = c.none + one nothing }

  made : {full part none : ℕ} (t n : Bool) → all_of own lots ≡ t → none_of own lots ≡ n
      → full ≡ c.full + one t → part ≡ c.part + one (not (t || n)) → none ≡ c.none + one n → record { full = full; part = part; none = none } ≡ more c own lots
  made t n all nothing f p z =
      let counts : ℕ → ℕ → ℕ → Failures = λ full part none. record { full = full; part = part; none = none } in
      (λ k. counts (f k) (p k) (z k)) ∙ sym (λ k. more_by (all k) (nothing k))

  not_none : (t : Bool) → eqb lots 0 ≡ t → (t ≡ true → own ≡ 0) → none_of own lots ≡ false
  not_none true e follows = ap₂ (λ (x y : Bool). x and not y) e (eq-eqb own 0 (follows refl))
  not_none false e follows = ap (λ (t : Bool). t and not (eqb own 0)) e

  pub ended_full : eqb lots own ≡ true → record { full = c.full + 1; part = c.part; none = c.none } ≡ more c own lots
  ended_full all = made true false all (not_none (eqb lots 0) refl (λ e. sym (eqb-true lots own all) ∙ eqb-true lots 0 e)) (omega arith) (omega arith) (omega arith)

  pub ended_none : eqb lots own ≡ false → eqb lots 0 ≡ true → record { full = c.full; part = c.part; none = c.none + 1 } ≡ more c own lots
  ended_none differs nothing =
      let some_own = ne_eqb own 0 (λ e. eqb-false lots own differs (eqb-true lots 0 nothing ∙ sym e)) in
      made false true differs (ap₂ (λ (x y : Bool). x and not y) nothing some_own) (omega arith) (omega arith) (omega arith)

  pub ended_part : eqb lots own ≡ false → eqb lots 0 ≡ false → record { full = c.full; part = c.part + 1; none = c.none } ≡ more c own lots
  ended_part differs some = made false false differs (ap (λ (t : Bool). t and not (eqb own 0)) some) (omega arith) (omega arith) (omega arith)

pub counted_none : (own : ℕ) (lots : ℕ → ℕ) → Counted own lots 0 (record { full = 0; part = 0; none = 0 })
unfolding many counted gathered
counted_none own lots = record { full = refl; part = refl; none = refl }

module _ {own : ℕ} {lots : ℕ → ℕ} {p : ℕ} {c : Failures} (now : Counted own lots p c) where
  -- the next one
  one_more : (test : ℕ → Bool) (n x : ℕ) → n ≡ many p (λ (q : ℕ). test (lots q)) → x ≡ lots p → n + one (test x) ≡ many (p + 1) (λ (q : ℕ). test (lots q))
  one_more test n x was is =
      omega (arith, was, ap (λ (y : ℕ). one (test y)) is, many_more p (λ (q : ℕ). test (lots q)), ap (λ (m : ℕ). many m (λ (q : ℕ). test (lots q))) (add-one p))

  pub counted_next : {next : Failures} (x : ℕ) → x ≡ lots p → next ≡ more c own x → Counted own lots (p + 1) next
  counted_next x is made =
      record {
        full = ap (λ (n : Failures). n.full) made ∙ one_more (all_of own) c.full x now.full is;
        part = ap (λ (n : Failures). n.part) made ∙ one_more (some_of own) c.part x now.part is;
        none = ap (λ (n : Failures). n.none) made ∙ one_more (none_of own) c.none x now.none is;
      }

  pub counted_all : {n : ℕ} → p ≡ n → Counted own lots n c
  counted_all all = subst (λ (m : ℕ). Counted own lots m c) all now

  pub counted_own : {lots_had : ℕ} → own ≡ lots_had → Counted lots_had lots p c
  counted_own has = subst (λ (n : ℕ). Counted n lots p c) has now

  -- no count is above the number of patterns
  pub counted_most : (c.full ≤ p) × (c.part ≤ p) × (c.none ≤ p)
  counted_most =
      (omega (arith, now.full, many_most p (λ (q : ℕ). all_of own (lots q))), omega (arith, now.part, many_most p (λ (q : ℕ). some_of own (lots q))), omega (arith, now.none, many_most p (λ (q : ℕ). none_of own (lots q))))
