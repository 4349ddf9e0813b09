-- How many digits a number has, by the largest numbers that it passes (02, m, 2).
use Rattle.numbers.proofs.Words.{ℕ, zero, suc, ◌+◌, ◌/◌, ◌%◌, ◌^◌, ◌≤◌, ◌<◌, max, pow-suc, add-one, le_antisymm, not-suc-le-zero, arith, ◌≡◌, subst, List, [], ◌∷◌, ⊎_elim, length}
use Rattle.numbers.specs.Text.{digits_from, decimal}
use Rattle.numbers.proofs.Tests.{below_or_not}
use Rattle.listing.proofs.Laws.Digits.{digits_more, digits_last}
use Rattle.listing.proofs.Laws.Most.{decimal_most}
use Rattle.call_label.specs.Lengths.{largest_of}

some_power : (k : ℕ) → 1 ≤ 10 ^ k
some_power zero = omega arith
some_power (suc k) = omega (arith, pow-suc 10 k, some_power k)

-- what follows the digits stays
digits_longer : (turns n : ℕ) (after : List ℕ) → length after ≤ length (digits_from turns n after)
unfolding digits_from
digits_longer zero n after = omega arith
digits_longer (suc turns) n after =
    ⊎_elim (λ (l : n < 10). rw (digits_last turns n after l) (omega arith))
    (λ (l : 10 ≤ n). rw (digits_more turns n after l) (omega (arith, digits_longer turns (n / 10) ((48 + n % 10) ∷ after))))
    (below_or_not n 10)

-- a number from 10^k on has at least k + 1 digits, and 0 has one
digits_least : (turns k n : ℕ) (after : List ℕ) → k < turns → 10 ^ k ≤ max n 1 → suc k + length after ≤ length (digits_from turns n after)
digits_least zero k n after few h = absurd (not-suc-le-zero few)
digits_least (suc turns) zero n after few h =
    ⊎_elim (λ (l : n < 10). rw (digits_last turns n after l) (omega arith))
    (λ (l : 10 ≤ n). rw (digits_more turns n after l) (omega (arith, digits_longer turns (n / 10) ((48 + n % 10) ∷ after))))
    (below_or_not n 10)
digits_least (suc turns) (suc k) n after few h =
    let ten : 10 ≤ n = omega (arith, h, pow-suc 10 k, some_power k) in
    let rest : 10 ^ k ≤ max (n / 10) 1 = omega (arith, h, pow-suc 10 k, ten) in
    rw (digits_more turns n after ten) (omega (arith, digits_least turns k (n / 10) ((48 + n % 10) ∷ after) (omega (arith, few)) rest))

-- what the loop keeps: the number passes the largest of so many digits
pub record Passed (n more : ℕ) : Type 0 where
  pub place : more ≤ 20
  pub passed : 10 ^ more ≤ max n 1

pub passed_none : (n : ℕ) → Passed n 0
passed_none n = record { place = omega arith; passed = omega arith }

module _ {n more : ℕ} (p : Passed n more) (fits : n < 18_446_744_073_709_551_616) where
  pub passed_next : more < 20 → largest_of more < n → Passed n (more + 1)
  passed_next h larger =
      let next : 10 ^ suc more ≤ n = omega (arith, larger, fits) in
      record { place = omega (arith, h); passed = rw (add-one more) (omega (arith, next)) }

  -- the last of the table is passed by none
  pub passed_all : 20 ≤ more → ⊥
  passed_all h =
      let all : 10 ^ 20 ≤ max n 1 = subst (λ (k : ℕ). 10 ^ k ≤ max n 1) (le_antisymm p.place h) p.passed in
      omega (arith, fits, all)

  pub passed_end : more < 20 → n ≤ largest_of more → more + 1 ≡ length (decimal n)
  unfolding decimal
  passed_end place h =
      le_antisymm (omega (arith, digits_least 20 more n [] place p.passed))
      (omega (arith, decimal_most more n (omega (arith, h, some_power (suc more)))))
