-- What is read alike of all lists that name each number equally often, in whatever order (02, n, 4).
use Rattle.numbers.proofs.Words.{ℕ, ◌<◌, not-suc-le-zero, arith, ◌≡◌, refl, sym, ap, ◌∙◌, Bool, true, false, cond, List, [], ◌∷◌, eqb, eqb-true, eq-eqb, passing}
use Rattle.numbers.proofs.Counts.{one}
use Rattle.rules.specs.Failures.{times_named}
use Rattle.pattern_laws.proofs.Lists.{passing_front}

-- a reading of lists that sees the first number and what is read of the others, and does not see the order of the first two
pub record Unordered {A : Type 0} (read : List ℕ → A) : Type 0 where
  pub keep : (i : ℕ) (xs ys : List ℕ) → read xs ≡ read ys → read (i ∷ xs) ≡ read (i ∷ ys)
  pub swap : (i j : ℕ) (xs : List ℕ) → read (i ∷ j ∷ xs) ≡ read (j ∷ i ∷ xs)

-- how often a number is named is one
times_unordered : (i : ℕ) → Unordered (times_named i)
times_unordered i =
    record {
      keep = λ j xs ys e. omega (arith, e, passing_front (eqb i) j xs, passing_front (eqb i) j ys);
      swap = λ j k xs.
          omega (arith, passing_front (eqb i) j (k ∷ xs), passing_front (eqb i) k xs, passing_front (eqb i) k (j ∷ xs), passing_front (eqb i) j xs);
    }

-- a list with a number named once less
without : ℕ → List ℕ → List ℕ
without i [] = []
without i (j ∷ js) = cond (eqb i j) js (j ∷ without i js)

-- a number that is named may as well be named first
first_named : {A : Type 0} (read : List ℕ → A) → Unordered read → (i : ℕ) (js : List ℕ) → 0 < times_named i js → read js ≡ read (i ∷ without i js)
unfolding without passing
first_named read u i [] h = absurd (not-suc-le-zero h)
first_named read u i (j ∷ js) h = go (eqb i j) refl (first_named read u i js)
  where
    go : (t : Bool) → eqb i j ≡ t → (0 < times_named i js → read js ≡ read (i ∷ without i js)) → read (j ∷ js) ≡ read (i ∷ cond t js (j ∷ without i js))
    go true e later = ap (λ (k : ℕ). read (k ∷ js)) (sym (eqb-true i j e))
    go false e later = u.keep j js (i ∷ without i js) (later (omega (arith, h, passing_front (eqb i) j js, ap one e))) ∙ u.swap j i (without i js)

-- so lists that name each number equally often are read alike (02, n, 4)
pub any_order : {A : Type 0} (read : List ℕ → A) → Unordered read → (xs ys : List ℕ) → ((i : ℕ) → times_named i xs ≡ times_named i ys) → read xs ≡ read ys
unfolding passing
any_order read u [] [] same = refl
any_order read u [] (y ∷ ys) same = absurd (omega (arith, same y, passing_front (eqb y) y ys, ap one (eq-eqb y y refl)))
any_order read u (x ∷ xs) ys same =
    let named : 0 < times_named x ys = omega (arith, same x, passing_front (eqb x) x xs, ap one (eq-eqb x x refl)) in
    let others : (i : ℕ) → times_named i xs ≡ times_named i (without x ys) =
    λ i. omega (arith, same i, first_named (times_named i) (times_unordered i) x ys named, passing_front (eqb i) x xs, passing_front (eqb i) x (without x ys)) in
    u.keep x xs (without x ys) (any_order read u xs (without x ys) others) ∙ sym (first_named read u x ys named)
