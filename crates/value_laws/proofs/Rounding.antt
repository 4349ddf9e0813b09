-- What is shown of the rounding, and the two laws that others stand on. They do not depend on what is done at half (`Rules.antt`).
use Rattle.numbers.proofs.Words.{ℕ, ◌+◌, ◌*◌, ◌/◌, ◌%◌, ◌≤◌, ◌<◌, arith, ◌≡◌, refl, sym, ap, subst, ◌∙◌, ℤ, pos, negsuc, nat_abs, ◌-ℤ◌, div-zero, div-add-mod', div-eq_of_lt-le, mod-lt, max, ⊎_elim, le_trans, le-mul_of_pos_right, mul-le-mul_right, eq-zero-or-pos}
use Rattle.numbers.proofs.Whole.{Sides, difference}
use Rattle.rules.specs.declared.rounding.{Case.Case}
use Rattle.rules.specs.declared.rounding.Case.TheVariants.{BelowHalf, AtHalf, AboveHalf}
use Rattle.rules.specs.Rounding.{divided, case_of, result_of, rounded, Lies, Shown, Rounding}
use Rattle.value_laws.proofs.Rules.{Rule, result_most, rule_rounds, case_holds, case_alone}

-- a half goes up (01, Value, 4)
half_up : Rule result_of
unfolding result_of
half_up = record { below = λ whole. refl; at_least = λ whole. omega arith; at_most = λ whole. omega arith; above = λ whole. refl }

-- whole numbers stay, and it never falls (02, c, 3)
pub rounding : Rounding rounded
unfolding rounded
rounding = rule_rounds half_up

-- so it is within any whole number that n/d is within
module _ {round : ℕ → ℕ → ℕ} (r : Rounding round) where
  pub rounded_most : (n d most : ℕ) → 0 < d → n ≤ most * d → round n d ≤ most
  rounded_most n d most h few = subst (λ (k : ℕ). round n d ≤ k) (r.whole most d h) (r.rises n d (most * d) d h h (mul-le-mul_right d few))

-- it is within n, but for the 1 that a divisor 0 gives
pub rounded_fits : (n d : ℕ) → rounded n d ≤ max n 1
unfolding rounded divided
rounded_fits n d =
    ⊎_elim
    (λ (none : d ≡ 0). rw (none, div-zero) (omega (arith, result_most half_up 0 (case_of (n % 0) 0))))
    (λ (some : 0 < d). le_trans (rounded_most rounding n d n some (le-mul_of_pos_right n some)) (omega arith))
    (eq-zero-or-pos d)

-- twice the distance of a and b
apart : (a b most : ℕ) → 2 * a ≤ 2 * b + most → 2 * b ≤ 2 * a + most → 2 * nat_abs (pos a -ℤ pos b) ≤ most
apart a b most up down = go (pos a -ℤ pos b) (difference (pos a) (pos b))
  where
    go : (z : ℤ) → Sides z (a + 0) (0 + b) → 2 * nat_abs z ≤ most
    go (pos n) sides = omega arith
    go (negsuc n) sides = omega arith

-- by the case that holds
module _ (n d : ℕ) (h : 0 < d) where
  rounded_in : (case : Case) → Lies case (n % d) d → rounded n d ≡ result_of (n / d) case
  unfolding rounded divided
  rounded_in case lies = ap (result_of (n / d)) (sym (case_alone case (n % d) d lies))

  -- the multiple of the divisor that the result stands for lies at most half a divisor above n, and less than that below it
  around : (case : Case) → Lies case (n % d) d → n / d * d + n % d ≡ n → n % d < d → (2 * (result_of (n / d) case * d) ≤ 2 * n + d) × (2 * n < 2 * (result_of (n / d) case * d) + d)
  unfolding result_of Lies
  around BelowHalf lies division remains = (omega arith, omega arith)
  around AtHalf lies division remains = (omega arith, omega arith)
  around AboveHalf lies division remains = (omega arith, omega arith)

  -- quotient and remainder, one case, its result, the same values, and the nearest (02, c, 3)
  pub rounded_shown : Shown n d
  unfolding divided result_of
  rounded_shown =
      let found = case_of (n % d) d in
      let lies = case_holds (n % d) d in
      let limits = around found lies (div-add-mod' n d) (mod-lt n h) in
      record {
        division = sym (div-add-mod' n d);
        remains = mod-lt n h;
        holds = lies;
        alone = λ case. case_alone case (n % d) d;
        below_half = rounded_in BelowHalf;
        at_half = rounded_in AtHalf;
        above_half = rounded_in AboveHalf;
        as_before = rounded_in found lies ∙ sym (div-eq_of_lt-le (2 * d) (omega arith) (omega arith));
        nearest = rw (rounded_in found lies) (apart n (result_of (n / d) found * d) d (omega arith) limits.0);
      }
