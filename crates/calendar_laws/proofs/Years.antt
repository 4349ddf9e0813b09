-- The rows of the months, and the days of the years: 365 for each year, one more for each fourth, one less for each hundredth, one more for each four-hundredth.
use Rattle.numbers.proofs.Words.{ℕ, zero, suc, ◌+◌, ◌-◌, ◌*◌, ◌/◌, ◌%◌, ◌≤◌, ◌<◌, add-zero, add-one, div-add-mod', mod-lt, arith, ◌≡◌, refl, sym, ap, ◌∙◌, Bool, true, false, not, cond, ◌&&◌, ◌||◌, List, [], ⊎_elim, eqb, eq-eqb, ne_eqb, eqb-true, eqb-false, leb, leb-true, every, length, get_or, counted, entry, listed, total, gathered, between}
use native.Mathlib.Nat.{add-suc}
use lib.Arith.{digits_div, digits_mod}
use Rattle.numbers.proofs.Tests.{both, below_or_not}
use Rattle.numbers.proofs.Lists.{every_at}
use Rattle.numbers.proofs.Sums.{naturals}
use Rattle.numbers.proofs.Ranges.{sum_more, sum_moved}
use Rattle.numbers.proofs.Counts.{one}
use Rattle.rules.specs.Calendar.{leap, month_rows, row_of, days_of_year, days_before_year}

-- a row by the leap rule: its twelve months, its days in all, and each month from 28 to 31
abbrev row : Bool → List ℕ
row long = get_or month_rows (cond long 1 0) []

row_months : (long : Bool) → length (row long) ≡ 12
unfolding month_rows
row_months true = refl
row_months false = refl

row_days : (long : Bool) → total (row long) ≡ 365 + one long
unfolding month_rows gathered
row_days true = refl
row_days false = refl

row_limits : (long : Bool) → every (between 28 31) (row long) ≡ true
unfolding month_rows every
row_limits true = refl
row_limits false = refl

row_between : (long : Bool) (k : ℕ) → k < 12 → (28 ≤ entry (row long) k) × (entry (row long) k ≤ 31)
row_between long k h =
    let n = entry (row long) k in
    let tests = both (leb 28 n) (leb n 31) (every_at (between 28 31) (row long) k 0 (row_limits long) (omega (arith, row_months long))) in
    (leb-true 28 n tests.0, leb-true n 31 tests.1)

-- the same of a year
pub months_twelve : (year : ℕ) → length (row_of year) ≡ 12
unfolding row_of
months_twelve year = row_months (leap year)

pub year_days : (year : ℕ) → days_of_year year ≡ 365 + one (leap year)
unfolding row_of
year_days year = row_days (leap year)

pub month_between : (year k : ℕ) → k < 12 → (28 ≤ entry (row_of year) k) × (entry (row_of year) k ≤ 31)
unfolding row_of
month_between year = row_between (leap year)

-- one number more adds one to a quotient where the divisor divides it, and nothing elsewhere
quotient_next : (d n : ℕ) → 0 < d → suc n / d ≡ n / d + one (eqb (suc n % d) 0)
quotient_next d n h =
    ⊎_elim
    (λ (inside : suc (n % d) < d).
    let e : suc n ≡ n / d * d + suc (n % d) = omega (arith, div-add-mod' n d) in
    let left : suc n % d ≡ suc (n % d) = ap (λ (m : ℕ). m % d) e ∙ digits_mod (n / d) inside in
    ap (λ (m : ℕ). m / d) e ∙ digits_div (n / d) inside ∙ sym (rw (ne_eqb (suc n % d) 0 (λ z. absurd (omega (arith, z, left)))) (add-zero (n / d))))
    (λ (last : d ≤ suc (n % d)).
    let e : suc n ≡ suc (n / d) * d + 0 = omega (arith, div-add-mod' n d, mod-lt n h) in
    let left : suc n % d ≡ 0 = ap (λ (m : ℕ). m % d) e ∙ digits_mod (suc (n / d)) h in
    ap (λ (m : ℕ). m / d) e ∙ digits_div (suc (n / d)) h ∙ sym (rw (eq-eqb (suc n % d) 0 left) (add-one (n / d))))
    (below_or_not (suc (n % d)) d)

-- a year that a hundred divides is divided by four, and one that four hundred divides by a hundred: so a leap day is one for each fourth, less one for each
-- hundredth, and one for each four-hundredth
leap_day : (year : ℕ) → one (leap year) + one (eqb (year % 100) 0) ≡ one (eqb (year % 4) 0) + one (eqb (year % 400) 0)
unfolding leap
leap_day year = by_tests (eqb (year % 4) 0) (eqb (year % 100) 0) (eqb (year % 400) 0) refl refl refl
  where
    by_tests : (a b c : Bool) → eqb (year % 4) 0 ≡ a → eqb (year % 100) 0 ≡ b → eqb (year % 400) 0 ≡ c → one (a && (not b || c)) + one b ≡ one a + one c
    by_tests true true true p q r = refl
    by_tests true true false p q r = refl
    by_tests true false true p q r = absurd (eqb-false (year % 100) 0 q (let d = eqb-true (year % 400) 0 r in omega arith))
    by_tests true false false p q r = refl
    by_tests false true c p q r = absurd (eqb-false (year % 4) 0 p (let d = eqb-true (year % 100) 0 q in omega arith))
    by_tests false false true p q r = absurd (eqb-false (year % 4) 0 p (let d = eqb-true (year % 400) 0 r in omega arith))
    by_tests false false false p q r = refl

-- the days of the first n years
abbrev first_years : ℕ → ℕ
first_years n = total (listed n (λ (before : ℕ). days_of_year (before + 1)))

first_more : (n : ℕ) → first_years (suc n) ≡ first_years n + days_of_year (suc n)
first_more n = sum_more ◌+◌ 0 naturals n (λ (before : ℕ). days_of_year (before + 1)) ∙ ap (λ (m : ℕ). first_years n + days_of_year m) (add-one n)

years_days : (n : ℕ) → first_years n + n / 100 ≡ 365 * n + n / 4 + n / 400
unfolding counted gathered
years_days zero = refl
years_days (suc n) =
    omega (arith, first_more n, year_days (suc n), leap_day (suc n), quotient_next 4 n (omega arith), quotient_next 100 n (omega arith), quotient_next 400 n (omega arith), years_days n)

-- what `days_before_year` comes to, without a walk over the years
abbrev pub years_counted : ℕ → ℕ
years_counted n = 365 * n + n / 4 + n / 400 - n / 100

pub before_year : (year : ℕ) → days_before_year year ≡ years_counted (year - 1)
unfolding days_before_year
before_year year = omega (arith, years_days (year - 1))

pub years_most : (year : ℕ) → days_before_year year ≤ 366 * year
years_most year = let e = before_year year in omega (arith, e)

-- one year more
pub year_more : (year : ℕ) → 1 ≤ year → days_before_year (year + 1) ≡ days_before_year year + days_of_year year
unfolding days_before_year
year_more year h =
    let this : suc (year - 1) ≡ year = omega arith in
    let one_more : year + 1 - 1 ≡ suc (year - 1) = omega arith in
    ap first_years one_more ∙ first_more (year - 1) ∙ ap (λ (y : ℕ). first_years (year - 1) + days_of_year y) this

-- after 400 years the leap years come again, and 146,097 days have passed
leap_again : (year : ℕ) → leap (year + 400) ≡ leap year
unfolding leap
leap_again year =
    let four : (year + 400) % 4 ≡ year % 4 = omega arith in
    let hundred : (year + 400) % 100 ≡ year % 100 = omega arith in
    let all : (year + 400) % 400 ≡ year % 400 = omega arith in
    rw (four, hundred, all)

pub row_again : (year : ℕ) → row_of (year + 400) ≡ row_of year
unfolding row_of
row_again year = ap row (leap_again year)

-- m years in a row, from a year on
abbrev years_from : ℕ → ℕ → ℕ
years_from m year = total (listed m (λ (after : ℕ). days_of_year (year + after)))

from_nought : years_from 400 0 ≡ 146_097
unfolding leap month_rows row_of counted gathered
from_nought = refl

pub four_hundred_years : (year : ℕ) → years_from 400 year ≡ 146_097
four_hundred_years zero = from_nought
four_hundred_years (suc year) = omega (arith, sum_moved 400 year days_of_year, ap total (row_again year), four_hundred_years year)

-- the first n years and m more
years_on : (n m : ℕ) → first_years (n + m) ≡ first_years n + years_from m (suc n)
unfolding counted gathered
years_on n zero = ap first_years (add-zero n) ∙ sym (add-zero (first_years n))
years_on n (suc m) =
    let more = sum_more ◌+◌ 0 naturals m (λ (after : ℕ). days_of_year (suc n + after)) in
    let last : first_years (n + suc m) ≡ first_years (n + m) + days_of_year (suc n + m) = ap first_years (add-suc n m) ∙ first_more (n + m) ∙ ap (λ (y : ℕ). first_years (n + m) + days_of_year y) (omega arith) in
    omega (arith, more, last, years_on n m)

pub years_again : (year : ℕ) → 1 ≤ year → days_before_year (year + 400) ≡ days_before_year year + 146_097
unfolding days_before_year
years_again year h =
    let before : year + 400 - 1 ≡ year - 1 + 400 = omega arith in
    ap first_years before ∙ years_on (year - 1) 400 ∙ ap (λ (days : ℕ). first_years (year - 1) + days) (four_hundred_years (suc (year - 1)))
