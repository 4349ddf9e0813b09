-- The days of the months before one, added up over a year's row.
use Rattle.numbers.proofs.Words.{ℕ, zero, suc, ◌+◌, ◌-◌, ◌*◌, min, ◌≤◌, ◌<◌, add-one, arith, ◌≡◌, refl, sym, ap, ◌∙◌, ⊎_elim, counted, entry, listed, total, gathered}
use native.Mathlib.Nat.{add-suc}
use Rattle.numbers.proofs.Sums.{naturals}
use Rattle.numbers.proofs.Ranges.{sum_more, get_d_past}
use Rattle.numbers.proofs.Tests.{below_or_not}
use Rattle.rules.specs.Calendar.{row_of, days_before_month}
use Rattle.calendar_laws.proofs.Years.{months_twelve, month_between}

-- the days of the first n months
abbrev pub first_months : ℕ → ℕ → ℕ
first_months year n = total (listed n (entry (row_of year)))

-- past December there is nothing to add
past_december : (year n : ℕ) → first_months year (12 + n) ≡ first_months year 12
past_december year zero = refl
past_december year (suc n) =
    let more : first_months year (12 + suc n) ≡ first_months year (12 + n) + entry (row_of year) (12 + n) =
    ap (first_months year) (add-suc 12 n) ∙ sum_more ◌+◌ 0 naturals (12 + n) (entry (row_of year)) in
    let nothing = get_d_past (row_of year) (12 + n) 0 (omega (arith, months_twelve year)) in
    omega (arith, more, nothing, past_december year n)

-- so many months have at most 31 days each; those before any month, at most 372 in all
few_months : (year n : ℕ) → n ≤ 12 → first_months year n ≤ 31 * n
unfolding counted gathered
few_months year zero h = omega arith
few_months year (suc n) h = omega (arith, sum_more ◌+◌ 0 naturals n (entry (row_of year)), month_between year n (omega arith), few_months year n (omega arith))

pub months_most : (year month : ℕ) → days_before_month year month ≤ 372
unfolding days_before_month
months_most year month =
    ⊎_elim (λ (h : month - 1 < 12). omega (arith, few_months year (month - 1) (omega arith)))
    (λ (h : 12 ≤ month - 1).
    let all : 12 + (month - 1 - 12) ≡ month - 1 = omega arith in
    let same = ap (first_months year) all in
    omega (arith, same, past_december year (month - 1 - 12), few_months year 12 (omega arith)))
    (below_or_not (month - 1) 12)

-- one month more
pub month_more : (year i : ℕ) → first_months year (i + 1) ≡ first_months year i + entry (row_of year) i
month_more year i = ap (first_months year) (add-one i) ∙ sum_more ◌+◌ 0 naturals i (entry (row_of year))

-- the months of a year come to 372 days at most, so many of them as are asked
pub first_most : (year i : ℕ) → i ≤ 12 → first_months year i ≤ 372
first_most year i h = omega (arith, few_months year i h)

-- and past December there are none
pub months_asked : (year months n : ℕ) → n ≡ min months 12 → first_months year n ≡ first_months year months
months_asked year months n e =
    ⊎_elim
    (λ (inside : months < 12). ap (first_months year) (omega (arith, e, inside)))
    (λ (past : 12 ≤ months).
    let all : n ≡ 12 = omega (arith, e, past) in
    let more : 12 + (months - 12) ≡ months = omega (arith, past) in
    ap (first_months year) all ∙ sym (past_december year (months - 12)) ∙ ap (first_months year) more)
    (below_or_not months 12)
