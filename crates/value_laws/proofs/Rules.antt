-- Any rule for the result: below half the quotient, above half one more, and at half one of the two, by the quotient alone. It rounds a whole number to itself
-- and never falls: so a rule may be chosen at half, and what stands on those two laws stays.
use Rattle.numbers.proofs.Words.{ℕ, ◌+◌, ◌*◌, ◌/◌, ◌%◌, ◌≤◌, ◌<◌, arith, ◌≡◌, refl, ap, Bool, true, false, cond, ⊎_elim, ltb, eqb, lt-ltb, le-ltb, ltb-true, ltb-false, eqb-true, eqb-false, eq-eqb, ne_eqb, le-div_iff_mul-le, div-mul-le_self, div-add-mod', mul-div_cancel, mul-mod_left, mul-le-mul_right, mul-lt-mul_of_pos_right, le_of_mul-le-mul_right}
use Rattle.numbers.proofs.Tests.{below_or_not}
use Rattle.rules.specs.declared.rounding.{Case.Case}
use Rattle.rules.specs.declared.rounding.Case.TheVariants.{BelowHalf, AtHalf, AboveHalf}
use Rattle.rules.specs.Rounding.{divided, quotient, remainder, case_of, Lies, Rounding}

-- the case that the test finds holds
pub case_holds : (rest d : ℕ) → Lies (case_of rest d) rest d
unfolding case_of Lies
case_holds rest d = first (ltb (2 * rest) d) refl
  where
    second : (t : Bool) → eqb (2 * rest) d ≡ t → d ≤ 2 * rest → Lies (cond t AtHalf AboveHalf) rest d
    second true e h = eqb-true (2 * rest) d e
    second false e h = let other = eqb-false (2 * rest) d e in omega (arith, other)

    first : (t : Bool) → ltb (2 * rest) d ≡ t → Lies (cond t BelowHalf (cond (eqb (2 * rest) d) AtHalf AboveHalf)) rest d
    first true e = ltb-true (2 * rest) d e
    first false e = second (eqb (2 * rest) d) refl (ltb-false (2 * rest) d e)

-- and no other does
pub case_alone : (case : Case) (rest d : ℕ) → Lies case rest d → case ≡ case_of rest d
unfolding case_of Lies
case_alone BelowHalf rest d h = simp (lt-ltb (2 * rest) d h)
case_alone AtHalf rest d h = simp (le-ltb (2 * rest) d (omega arith), eq-eqb (2 * rest) d h)
case_alone AboveHalf rest d h = simp (le-ltb (2 * rest) d (omega arith), ne_eqb (2 * rest) d (λ e. omega arith))

-- a rule for the result
pub record Rule (result : ℕ → Case → ℕ) : Type 0 where
  pub below : (whole : ℕ) → result whole BelowHalf ≡ whole
  pub at_least : (whole : ℕ) → whole ≤ result whole AtHalf
  pub at_most : (whole : ℕ) → result whole AtHalf ≤ whole + 1
  pub above : (whole : ℕ) → result whole AboveHalf ≡ whole + 1

abbrev pub by : (ℕ → Case → ℕ) → ℕ → ℕ → ℕ
by result n d = result (quotient n d) (case_of (remainder n d) d)

module _ {result : ℕ → Case → ℕ} (rule : Rule result) where
  -- a result is the quotient or one more
  pub result_least : (whole : ℕ) (case : Case) → whole ≤ result whole case
  result_least whole BelowHalf = omega (arith, rule.below whole)
  result_least whole AtHalf = rule.at_least whole
  result_least whole AboveHalf = omega (arith, rule.above whole)

  pub result_most : (whole : ℕ) (case : Case) → result whole case ≤ whole + 1
  result_most whole BelowHalf = omega (arith, rule.below whole)
  result_most whole AtHalf = rule.at_most whole
  result_most whole AboveHalf = omega (arith, rule.above whole)

  -- a whole number leaves no remainder
  whole_stays : (n d : ℕ) → 0 < d → by result (n * d) d ≡ n
  unfolding divided Lies
  whole_stays n d h = rw (mul-div_cancel n h, mul-mod_left n d, ← case_alone BelowHalf 0 d (omega arith)) (rule.below n)

  -- a remainder whose share of its divisor is no larger: the result of the same quotient is no larger
  cases : (whole rest d other e : ℕ) (first second : Case) → 0 < d → 0 < e → rest * e ≤ other * d → Lies first rest d → Lies second other e → result whole first ≤ result whole second
  unfolding Lies
  cases whole rest d other e BelowHalf second hd he h p q = omega (arith, rule.below whole, result_least whole second)
  cases whole rest d other e AtHalf BelowHalf hd he h p q = absurd (omega (arith, ap (λ (k : ℕ). k * e) p, mul-lt-mul_of_pos_right q hd))
  cases whole rest d other e AtHalf AtHalf hd he h p q = omega arith
  cases whole rest d other e AtHalf AboveHalf hd he h p q = omega (arith, rule.above whole, rule.at_most whole)
  cases whole rest d other e AboveHalf BelowHalf hd he h p q = absurd (omega (arith, mul-lt-mul_of_pos_right p he, mul-lt-mul_of_pos_right q hd))
  cases whole rest d other e AboveHalf AtHalf hd he h p q = absurd (omega (arith, mul-lt-mul_of_pos_right p he, ap (λ (k : ℕ). k * d) q))
  cases whole rest d other e AboveHalf AboveHalf hd he h p q = omega arith

  -- of two fractions the first is at most the second
  module _ (m d n e : ℕ) (hd : 0 < d) (he : 0 < e) (h : m * e ≤ n * d) where
    quotients : m / d ≤ n / e
    quotients =
        (le-div_iff_mul-le he).1
        (le_of_mul-le-mul_right {k = d} (omega (arith, mul-le-mul_right e (div-mul-le_self m d))) hd)

    -- where the quotients are one, so are the remainders
    remainders : m / d ≡ n / e → m % d * e ≤ n % e * d
    remainders same =
        omega (arith, ap (λ (k : ℕ). k * e) (div-add-mod' m d), ap (λ (k : ℕ). k * d) (div-add-mod' n e), ap (λ (k : ℕ). k * e * d) same)

    never_falls : by result m d ≤ by result n e
    unfolding divided
    never_falls =
        let first = case_of (m % d) d in
        let second = case_of (n % e) e in
        ⊎_elim
        (λ (more : m / d < n / e). omega (arith, result_most (m / d) first, result_least (n / e) second))
        (λ (no_more : n / e ≤ m / d).
        let same : m / d ≡ n / e = omega (arith, quotients) in
        rw same (cases (n / e) (m % d) d (n % e) e first second hd he (remainders same) (case_holds (m % d) d) (case_holds (n % e) e)))
        (below_or_not (m / d) (n / e))

  pub rule_rounds : Rounding (by result)
  rule_rounds = record { whole = whole_stays; rises = never_falls }
