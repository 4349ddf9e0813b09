-- The day after a date has the next number, whatever month, year or leap day lies between.
use Rattle.numbers.proofs.Words.{ℕ, suc, ◌+◌, ◌-◌, ◌%◌, ◌≤◌, ◌<◌, arith, ◌≡◌, refl, sym, ap, subst⁻¹, ◌∙◌, Bool, true, false, cond, ⊎_elim, eqb, lt-ltb, le-ltb, leb-true, le-leb, eqb-true, eqb-false, counted, entry, gathered}
use Rattle.numbers.proofs.Sums.{naturals}
use Rattle.numbers.proofs.Ranges.{sum_more, total_long}
use Rattle.numbers.proofs.Tests.{both, together, below_or_not}
use Rattle.rules.specs.declared.dates.{Date.Date}
use Rattle.rules.specs.Calendar.{row_of, days_of_month, days_of_year, dated, days_before_month, day_number, weekday, next_day, next_weekday, Gregorian}
use Rattle.calendar_laws.proofs.Months.{first_months}
use Rattle.calendar_laws.proofs.Years.{months_twelve, month_between, year_more, row_again, four_hundred_years, years_again}

-- what the calendar asks of a date
pub record Dated (d : Date) : Type 0 where
  pub year_least : 1 ≤ d.year
  pub month_least : 1 ≤ d.month
  pub month_most : d.month ≤ 12
  pub day_least : 1 ≤ d.day
  pub day_most : d.day ≤ days_of_month d.year d.month

pub dated_told : (d : Date) → dated d ≡ true → Dated d
unfolding dated
dated_told d h =
    let outer = both _ _ h in
    let inner = both _ _ outer.1 in
    let month = both _ _ inner.0 in
    let day = both _ _ inner.1 in
    record {
      year_least = leb-true _ _ outer.0;
      month_least = leb-true _ _ month.0;
      month_most = leb-true _ _ month.1;
      day_least = leb-true _ _ day.0;
      day_most = leb-true _ _ day.1;
    }

pub told_dated : (d : Date) → Dated d → dated d ≡ true
unfolding dated
told_dated d h =
    together (le-leb _ _ h.year_least)
    (together (together (le-leb _ _ h.month_least) (le-leb _ _ h.month_most)) (together (le-leb _ _ h.day_least) (le-leb _ _ h.day_most)))

-- one month more, and all twelve
pub month_more : (year month : ℕ) → 1 ≤ month → days_before_month year (month + 1) ≡ days_before_month year month + days_of_month year month
unfolding days_before_month
month_more year month h =
    let one_more : month + 1 - 1 ≡ suc (month - 1) = omega arith in
    ap (first_months year) one_more ∙ sum_more ◌+◌ 0 naturals (month - 1) (entry (row_of year))

pub months_all : (year : ℕ) → days_before_month year 13 ≡ days_of_year year
unfolding days_before_month
months_all year = total_long (row_of year) 12 (months_twelve year)

-- January has none before it
january : (year : ℕ) → days_before_month year 1 ≡ 0
unfolding days_before_month counted gathered
january year = refl

-- e is in the calendar and one day after d
record Next (d e : Date) : Type 0 where
  in_calendar : Dated e
  number : day_number e ≡ day_number d + 1

module _ (d : Date) where
  abbrev last : ℕ
  last = days_of_month d.year d.month

  -- the three days that may come next, and when each does
  abbrev day_on : Date
  day_on = record { year = d.year; month = d.month; day = d.day + 1 }

  abbrev month_on : Date
  month_on = record { year = d.year; month = d.month + 1; day = 1 }

  abbrev year_on : Date
  year_on = record { year = d.year + 1; month = 1; day = 1 }

  pub day_follows : d.day < last → next_day d ≡ day_on
  unfolding next_day
  day_follows inside = simp (lt-ltb d.day last inside)

  pub month_follows : last ≤ d.day → d.month < 12 → next_day d ≡ month_on
  unfolding next_day
  month_follows ended inside = simp (le-ltb d.day last ended, lt-ltb d.month 12 inside)

  pub year_follows : last ≤ d.day → 12 ≤ d.month → next_day d ≡ year_on
  unfolding next_day
  year_follows ended december = simp (le-ltb d.day last ended, le-ltb d.month 12 december)

module _ (d : Date) (h : Dated d) where
  -- within the month
  same_month : d.day < last d → Next d (day_on d)
  unfolding day_number
  same_month inside =
      record {
        in_calendar = record { year_least = h.year_least; month_least = h.month_least; month_most = h.month_most; day_least = omega arith; day_most = omega arith };
        number = omega (arith, h.day_least);
      }

  -- from the last day of a month to the next month
  next_month : last d ≤ d.day → d.month < 12 → Next d (month_on d)
  unfolding day_number
  next_month ended inside =
      let this : d.month + 1 - 1 ≡ d.month = omega arith in
      record {
        in_calendar =
            record {
              year_least = h.year_least;
              month_least = omega arith;
              month_most = omega arith;
              day_least = omega arith;
              day_most = rw this (omega (arith, month_between d.year d.month inside));
            };
        number = omega (arith, month_more d.year d.month h.month_least, h.day_least, h.day_most);
      }

  -- from the last day of a year to the next year
  next_year : last d ≤ d.day → 12 ≤ d.month → Next d (year_on d)
  unfolding day_number
  next_year ended december =
      let twelve : d.month ≡ 12 = omega (arith, h.month_most) in
      let months : days_before_month d.year d.month + last d ≡ days_of_year d.year =
      sym (month_more d.year d.month h.month_least) ∙ ap (λ (m : ℕ). days_before_month d.year (m + 1)) twelve ∙ months_all d.year in
      record {
        in_calendar =
            record { year_least = omega arith; month_least = omega arith; month_most = omega arith; day_least = omega arith; day_most = omega (arith, month_between (d.year + 1) 0 (omega arith)) };
        number = omega (arith, january (d.year + 1), year_more d.year h.year_least, months, h.day_least, h.day_most);
      }

  next : Next d (next_day d)
  next =
      ⊎_elim (λ (inside : d.day < last d). subst⁻¹ (Next d) (day_follows d inside) (same_month inside))
      (λ (ended : last d ≤ d.day).
      ⊎_elim (λ (inside : d.month < 12). subst⁻¹ (Next d) (month_follows d ended inside) (next_month ended inside))
      (λ (december : 12 ≤ d.month). subst⁻¹ (Next d) (year_follows d ended december) (next_year ended december))
      (below_or_not d.month 12))
      (below_or_not d.day (last d))

-- the weekday of the next number is the next weekday
weekday_next : (n : ℕ) → (n + 1) % 7 + 1 ≡ next_weekday (n % 7 + 1)
unfolding next_weekday
weekday_next n = by_sunday (eqb (n % 7 + 1) 7) refl
  where
    by_sunday : (t : Bool) → eqb (n % 7 + 1) 7 ≡ t → (n + 1) % 7 + 1 ≡ cond t 1 (n % 7 + 1 + 1)
    by_sunday true e = let sunday = eqb-true (n % 7 + 1) 7 e in omega (arith, sunday)
    by_sunday false e = let other = eqb-false (n % 7 + 1) 7 e in omega (arith, other)

-- 400 years later the same date has the same weekday
weekday_again : (year month day : ℕ) → 1 ≤ year → weekday (record { year = year + 400; month = month; day = day }) ≡ weekday (record { year = year; month = month; day = day })
unfolding weekday day_number days_before_month
weekday_again year month day h = rw (row_again year, years_again year h) (omega arith)

-- the calendar is right beyond the table (02, d, 2)
pub gregorian : Gregorian
unfolding weekday
gregorian =
    record {
      next_dated = λ d h. told_dated (next_day d) (next d (dated_told d h)).in_calendar;
      next_number = λ d h. (next d (dated_told d h)).number;
      next_weekday_lem = λ d h. ap (λ (n : ℕ). n % 7 + 1) (next d (dated_told d h)).number ∙ weekday_next (day_number d);
      four_centuries = four_hundred_years;
      comes_again = weekday_again;
    }
