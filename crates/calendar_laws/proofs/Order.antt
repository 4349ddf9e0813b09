-- The order of dates: their numbers, as one writes them, rise as their days do; and each number is that of one date.
use Rattle.numbers.proofs.Words.{ℕ, zero, suc, ◌+◌, ◌-◌, ◌*◌, ◌/◌, ◌%◌, ◌≤◌, ◌<◌, add-zero, arith, ◌≡◌, sym, ap, ◌∙◌, ltb, ⊎_elim, ltb-false, le-ltb}
use Rattle.numbers.proofs.Tests.{below_or_not, ltb_as}
use Rattle.rules.specs.declared.dates.{Date.Date}
use Rattle.rules.specs.Calendar.{days_before_year, days_before_month, day_number}
use Rattle.rules.specs.LastTradingDay.{number_of_date, date_of_number}
use Rattle.calendar_laws.proofs.Years.{month_between, year_more}
use Rattle.calendar_laws.proofs.Days.{Dated, month_more, months_all}

-- what never falls from one number to the next never falls over several
rising : (f : ℕ → ℕ) (first : ℕ) → ((n : ℕ) → first ≤ n → f n ≤ f (n + 1)) → (n more : ℕ) → first ≤ n → f n ≤ f (n + more)
rising f first step n zero h = omega (arith, ap f (add-zero n))
rising f first step n (suc more) h =
    let last : f (n + more + 1) ≡ f (n + suc more) = ap f (omega arith) in
    omega (arith, rising f first step n more h, step (n + more) (omega arith), last)

rises : (f : ℕ → ℕ) (first : ℕ) → ((n : ℕ) → first ≤ n → f n ≤ f (n + 1)) → (n m : ℕ) → first ≤ n → n ≤ m → f n ≤ f m
rises f first step n m h k =
    let there : f (n + (m - n)) ≡ f m = ap f (omega arith) in
    omega (arith, rising f first step n (m - n) h, there)

-- the days before a year and before a month rise
pub years_rise : (year later : ℕ) → 1 ≤ year → year ≤ later → days_before_year year ≤ days_before_year later
years_rise = rises days_before_year 1 (λ year h. omega (arith, year_more year h))

months_rise : (year month later : ℕ) → 1 ≤ month → month ≤ later → days_before_month year month ≤ days_before_month year later
months_rise year = rises (days_before_month year) 1 (λ month h. omega (arith, month_more year month h))

module _ (d : Date) (h : Dated d) where
  -- a month has at most 31 days
  pub day_limit : d.day ≤ 31
  day_limit = omega (arith, h.month_least, h.month_most, h.day_most, month_between d.year (d.month - 1) (omega (arith, h.month_least, h.month_most)))

  -- a date lies before the next month and before the next year
  in_month : days_before_month d.year d.month + (d.day - 1) < days_before_month d.year (d.month + 1)
  in_month = omega (arith, month_more d.year d.month h.month_least, h.day_least, h.day_most)

  pub in_year : day_number d < days_before_year (d.year + 1)
  unfolding day_number
  in_year =
      omega (arith, in_month, months_rise d.year (d.month + 1) 13 (omega arith) (omega (arith, h.month_most)), months_all d.year, year_more d.year h.year_least)

-- a date is sooner by its year, then by its month, then by its day
module _ (d e : Date) (h : Dated d) (k : Dated e) where
  by_year : d.year < e.year → day_number d < day_number e
  unfolding day_number
  by_year sooner = omega (arith, in_year d h, years_rise (d.year + 1) e.year (omega arith) (omega arith))

  by_month : d.year ≡ e.year → d.month < e.month → day_number d < day_number e
  unfolding day_number
  by_month year sooner =
      let before : days_before_month d.year e.month ≡ days_before_month e.year e.month = ap (λ (y : ℕ). days_before_month y e.month) year in
      omega (arith, in_month d h, months_rise d.year (d.month + 1) e.month (omega arith) (omega arith), before, ap days_before_year year)

  by_day : d.year ≡ e.year → d.month ≡ e.month → d.day < e.day → day_number d < day_number e
  unfolding day_number
  by_day year month sooner =
      let months : days_before_month d.year d.month ≡ days_before_month e.year e.month = ap (λ (y : ℕ). days_before_month y d.month) year ∙ ap (days_before_month e.year) month in
      omega (arith, ap days_before_year year, months, h.day_least)

  -- so a lower number is a sooner date
  sooner_date : number_of_date d < number_of_date e → day_number d < day_number e
  unfolding number_of_date
  sooner_date lower =
      ⊎_elim by_year
      (λ (y : e.year ≤ d.year).
      let year : d.year ≡ e.year = omega (arith, lower, y, day_limit e k, h.month_most, k.month_most) in
      ⊎_elim (by_month year)
      (λ (m : e.month ≤ d.month).
      let month : d.month ≡ e.month = omega (arith, lower, year, m, day_limit e k) in
      by_day year month (omega (arith, lower, year, month)))
      (below_or_not d.month e.month))
      (below_or_not d.year e.year)

-- a date's number stands for it
pub own_number_lem : (d : Date) → Dated d → date_of_number (number_of_date d) ≡ d
unfolding number_of_date date_of_number
own_number_lem d h =
    let n = d.year * 10_000 + d.month * 100 + d.day in
    let day_low = day_limit d h in
    let year : n / 10_000 ≡ d.year = omega (arith, h.month_most, day_low) in
    let hundreds : n / 100 ≡ d.year * 100 + d.month = omega (arith, day_low) in
    let month : n / 100 % 100 ≡ d.month = omega (arith, hundreds, h.month_most) in
    let day : n % 100 ≡ d.day = omega (arith, day_low) in
    λ i. record { year = year i; month = month i; day = day i }

-- two dates of one number are one
same_number : (d e : Date) → Dated d → Dated e → number_of_date d ≡ number_of_date e → d ≡ e
same_number d e h k same = sym (own_number_lem d h) ∙ ap date_of_number same ∙ own_number_lem e k

-- the numbers of two dates are in the order of their days
pub in_order : (d e : Date) → Dated d → Dated e → ltb (number_of_date d) (number_of_date e) ≡ ltb (day_number d) (day_number e)
in_order d e h k = sym (ltb_as (day_number d) (day_number e) (number_of_date d) (number_of_date e) (sooner_date d e h k) not_sooner)
  where
    not_sooner : number_of_date e ≤ number_of_date d → day_number e ≤ day_number d
    not_sooner high =
        ⊎_elim (λ (l : number_of_date e < number_of_date d). omega (arith, sooner_date e d k h l))
        (λ (l : number_of_date d ≤ number_of_date e). omega (arith, ap day_number (same_number d e h k (omega (arith, high, l)))))
        (below_or_not (number_of_date e) (number_of_date d))

-- so two dates of one day are one
pub same_day : (d e : Date) → Dated d → Dated e → day_number d ≡ day_number e → d ≡ e
same_day d e h k same = same_number d e h k (omega (arith, not_below_lem d e h k (sym same), not_below_lem e d k h same))
  where
    not_below_lem : (d e : Date) → Dated d → Dated e → day_number e ≡ day_number d → number_of_date e ≤ number_of_date d
    not_below_lem d e h k same = ltb-false (number_of_date d) (number_of_date e) (in_order d e h k ∙ le-ltb (day_number d) (day_number e) (omega (arith, same)))
