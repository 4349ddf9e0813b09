-- The search for the last trading day: what it finds, and that thirteen weeks are enough for 64 closed dates.
use Rattle.numbers.proofs.Words.{ℕ, zero, suc, ◌+◌, ◌-◌, ◌%◌, ◌≤◌, ◌<◌, add-zero, arith, ◌≡◌, refl, sym, ap, ◌∙◌, Bool, true, false, not, ◌||◌, true≢false, false≢true, lt-ltb, List, [], ◌∷◌, length, not-suc-le-zero, ascending, ⊎_elim, leb, ◌and◌, ltb-true, leb-true, every, counted, gathered, many}
use Rattle.numbers.proofs.Tests.{both, below_or_not}
use Rattle.numbers.proofs.Ranges.{sum_moved}
use Rattle.numbers.proofs.Counts.{one, many-same, many_within, many_among}
use Rattle.rules.specs.declared.dates.{Date.Date}
use Rattle.rules.specs.Calls.{◌if◌, first}
use Rattle.rules.specs.Calendar.{dated, day_number, weekday, next_day, tenth_of, in_thirty_years}
use Rattle.rules.specs.LastTradingDay.{number_of_date, weekend, closed_on, trading, first_trading, last_day, closed_good, closed_dates_good, last_day_number, days_after, IsLastDay, LastDayShown}
use Rattle.calendar_laws.proofs.Years.{year_days, month_between, year_more}
use Rattle.calendar_laws.proofs.Days.{dated_told, told_dated, gregorian}
use Rattle.calendar_laws.proofs.Tenths.{within_table}
use Rattle.calendar_laws.proofs.Order.{years_rise, in_year, own_number_lem, in_order, same_day}

-- days after a date are in the calendar, and their numbers follow one another
pub after_dated : (days : ℕ) (d : Date) → dated d ≡ true → dated (days_after days d) ≡ true
unfolding days_after
after_dated zero d h = h
after_dated (suc days) d h = gregorian.next_dated (days_after days d) (after_dated days d h)

pub after_number : (days : ℕ) (d : Date) → dated d ≡ true → day_number (days_after days d) ≡ day_number d + days
unfolding days_after
after_number zero d h = sym (add-zero (day_number d))
after_number (suc days) d h = omega (arith, gregorian.next_number (days_after days d) (after_dated days d h), after_number days d h)

after_next : (days : ℕ) (d : Date) → days_after days (next_day d) ≡ days_after (suc days) d
unfolding days_after
after_next zero d = refl
after_next (suc days) d = ap next_day (after_next days d)

-- every date from one on is so many days after it
reached : (d e : Date) → dated d ≡ true → dated e ≡ true → day_number d ≤ day_number e → days_after (day_number e - day_number d) d ≡ e
reached d e h k from =
    let days = day_number e - day_number d in
    same_day (days_after days d) e (dated_told _ (after_dated days d h)) (dated_told e k) (omega (arith, from, after_number days d h))

-- of 91 day numbers in a row 65 are neither Saturday nor Sunday
abbrev weekday_of : ℕ → Bool
weekday_of n = not (weekend (n % 7 + 1))

weeks_first : many 91 (λ (i : ℕ). weekday_of (0 + i)) ≡ 65
unfolding many counted gathered
weeks_first = refl

weeks : (n : ℕ) → many 91 (λ (i : ℕ). weekday_of (n + i)) ≡ 65
unfolding many
weeks zero = weeks_first
weeks (suc n) =
    let left : (n + 91) % 7 ≡ n % 7 = omega arith in
    let again : one (weekday_of (n + 91)) ≡ one (weekday_of n) = ap (λ (m : ℕ). one (not (weekend (m + 1)))) left in
    omega (arith, sum_moved 91 n (λ (i : ℕ). one (weekday_of i)), again, weeks n)

-- so it is of the days after a date
after_weekday : (days : ℕ) (d : Date) → dated d ≡ true → weekday (days_after days d) ≡ (day_number d + days) % 7 + 1
unfolding weekday
after_weekday days d h = ap (λ (n : ℕ). n % 7 + 1) (after_number days d h)

thirteen_weeks : (d : Date) → dated d ≡ true → many 91 (λ (days : ℕ). not (weekend (weekday (days_after days d)))) ≡ 65
thirteen_weeks d h =
    many-same 91 (λ (days : ℕ). not (weekend (weekday (days_after days d)))) (λ (days : ℕ). weekday_of (day_number d + days))
    (λ days k. ap (λ (w : ℕ). not (weekend w)) (after_weekday days d h))
    ∙ weeks (day_number d)

-- the later of two days has the higher number
pub after_apart : (d : Date) → dated d ≡ true → (i j : ℕ) → i < j → number_of_date (days_after i d) < number_of_date (days_after j d)
after_apart d h i j sooner =
    let earlier = days_after i d in
    let later = days_after j d in
    let days : day_number earlier < day_number later = omega (arith, after_number i d h, after_number j d h) in
    ltb-true (number_of_date earlier) (number_of_date later)
    (in_order earlier later (dated_told earlier (after_dated i d h)) (dated_told later (after_dated j d h)) ∙ lt-ltb (day_number earlier) (day_number later) days)

-- 64 closed dates cannot strike out 65 days
enough : (closed : List ℕ) → length closed ≤ 64 → (d : Date) → dated d ≡ true → ((days : ℕ) → days < 91 → trading closed (days_after days d) ≡ false) → ⊥
unfolding trading
enough closed few d h none =
    let open_days : ℕ → Bool = λ (days : ℕ). not (weekend (weekday (days_after days d))) in
    let shut_days : ℕ → Bool = λ (days : ℕ). closed_on closed (days_after days d) in
    let struck : many 91 open_days ≤ many 91 shut_days = many_within 91 open_days shut_days (λ days k e. shut (weekend (weekday (days_after days d))) (shut_days days) (none days k) e) in
    let apart : many 91 shut_days ≤ length closed = many_among 91 (λ (days : ℕ). number_of_date (days_after days d)) (λ i j sooner k same. omega (arith, same, after_apart d h i j sooner)) closed in
    omega (arith, struck, apart, thirteen_weeks d h)
  where
    shut : (w c : Bool) → not (w || c) ≡ false → not w ≡ true → c ≡ true
    shut true c e k = absurd (false≢true k)
    shut false true e k = refl
    shut false false e k = absurd (true≢false e)

-- a search by the test of its first date
module _ (n : ℕ) (closed : List ℕ) (d : Date) where
  pub first_here : trading closed d ≡ true → first_trading (suc n) closed d ≡ d
  unfolding first_trading
  first_here e = ap (λ (t : Bool). elim t [ true ↦ d | false ↦ first_trading n closed (next_day d) ]) e

  pub first_later : trading closed d ≡ false → first_trading (suc n) closed d ≡ first_trading n closed (next_day d)
  unfolding first_trading
  first_later e = ap (λ (t : Bool). elim t [ true ↦ d | false ↦ first_trading n closed (next_day d) ]) e

-- what a search over n days from a date on comes to: so many days later, none sooner is a trading day, and this one is where it is among the n
record Searched (n : ℕ) (closed : List ℕ) (d ended : Date) : Type 0 where
  days : ℕ
  within : days ≤ n
  day : ended ≡ days_after days d
  none : (sooner : ℕ) → sooner < days → trading closed (days_after sooner d) ≡ false
  trades : days < n → trading closed ended ≡ true

searched : (n : ℕ) (closed : List ℕ) (d : Date) → Searched n closed d (first_trading n closed d)
unfolding first_trading days_after
searched zero closed d = record { days = 0; within = omega arith; day = refl; none = λ sooner h. absurd (not-suc-le-zero h); trades = λ h. absurd (not-suc-le-zero h) }
searched (suc n) closed d = go (trading closed d) refl (searched n closed (next_day d))
  where
    none_sooner : (days : ℕ) → trading closed d ≡ false → ((sooner : ℕ) → sooner < days → trading closed (days_after sooner (next_day d)) ≡ false)
        → (sooner : ℕ) → sooner < suc days → trading closed (days_after sooner d) ≡ false
    none_sooner days e none zero h = e
    none_sooner days e none (suc sooner) h = ap (trading closed) (sym (after_next sooner d)) ∙ none sooner (omega arith)

    go : (t : Bool) → trading closed d ≡ t → Searched n closed (next_day d) (first_trading n closed (next_day d)) → Searched (suc n) closed d (first_trading (suc n) closed d)
    go true e rest =
        let here = first_here n closed d e in
        record { days = 0; within = omega arith; day = here; none = λ sooner h. absurd (not-suc-le-zero h); trades = λ h. ap (trading closed) here ∙ e }
    go false e rest =
        let later = first_later n closed d e in
        record {
          days = suc rest.days;
          within = omega (arith, rest.within);
          day = later ∙ rest.day ∙ after_next rest.days d;
          none = none_sooner rest.days e rest.none;
          trades = λ h. ap (trading closed) later ∙ rest.trades (omega (arith, h));
        }

-- what is known where nothing is refused
pub record Accepted (year month : ℕ) (closed : List ℕ) : Type 0 where
  pub month_good : in_thirty_years year month ≡ true
  pub few : length closed ≤ 64
  pub dates_good : every closed_good closed ≡ true
  pub in_turn_lem : ascending closed ≡ true

pub accepted : (year month : ℕ) (closed : List ℕ) → last_day_number year month closed ≡ 0 → Accepted year month closed
unfolding last_day_number first
accepted year month closed h =
    let parts = told (in_thirty_years year month) (closed_dates_good closed) h in
    let list = both (leb (length closed) 64) (every closed_good closed and ascending closed) parts.1 in
    let dates = both (every closed_good closed) (ascending closed) list.1 in
    record { month_good = parts.0; few = leb-true (length closed) 64 list.0; dates_good = dates.0; in_turn_lem = dates.1 }
  where
    told : (m c : Bool) → first (30 if not m ∷ 31 if not c ∷ []) ≡ 0 → (m ≡ true) × (c ≡ true)
    told true true h = (refl, refl)
    told true false h = absurd (omega (arith, h))
    told false c h = absurd (omega (arith, h))

-- the first 28 days of a month are dates, the 10th among them
pub early_dated : (year month day : ℕ) → in_thirty_years year month ≡ true → 1 ≤ day → day ≤ 28 → dated (record { year = year; month = month; day = day }) ≡ true
early_dated year month day h least most =
    let within = within_table year month h in
    told_dated (record { year = year; month = month; day = day })
    (record {
      year_least = omega (arith, within);
      month_least = within.first;
      month_most = within.last;
      day_least = least;
      day_most = omega (arith, most, month_between year (month - 1) (omega (arith, within)));
    })

tenth_dated : (year month : ℕ) → in_thirty_years year month ≡ true → dated (tenth_of year month) ≡ true
tenth_dated year month h = early_dated year month 10 h (omega arith) (omega arith)

-- within 365 days of a date at most one year ends
pub after_year : (days : ℕ) (d : Date) → dated d ≡ true → days ≤ 365 → (days_after days d).year ≤ d.year + 1
unfolding day_number
after_year days d h few =
    let later = days_after days d in
    let told = dated_told later (after_dated days d h) in
    ⊎_elim (λ (l : later.year < d.year + 2). omega (arith, l))
    (λ (l : d.year + 2 ≤ later.year).
    absurd
    (omega (arith, in_year d (dated_told d h), years_rise (d.year + 1 + 1) later.year (omega arith) (omega (arith, l)), year_more (d.year + 1) (omega arith), year_days (d.year + 1), after_number days d h)))
    (below_or_not later.year (d.year + 2))

module _ (year month : ℕ) (closed : List ℕ) (h : last_day_number year month closed ≡ 0) where
  abbrev tenth : Date
  tenth = tenth_of year month

  in_calendar : dated tenth ≡ true
  in_calendar = tenth_dated year month (accepted year month closed h).month_good

  search : Searched 91 closed tenth (last_day year month closed)
  unfolding last_day
  search = searched 91 closed tenth

  in_weeks : search.days < 91
  in_weeks =
      ⊎_elim (λ (l : search.days < 91). l)
      (λ (l : 91 ≤ search.days). absurd (enough closed (accepted year month closed h).few tenth in_calendar (λ days k. search.none days (omega (arith, k, l)))))
      (below_or_not search.days 91)

  found_number : day_number (last_day year month closed) ≡ day_number tenth + search.days
  found_number = ap day_number search.day ∙ after_number search.days tenth in_calendar

  found : IsLastDay year month closed (last_day year month closed)
  found =
      record {
        in_calendar = ap dated search.day ∙ after_dated search.days tenth in_calendar;
        from_tenth = omega (arith, found_number);
        trades = search.trades in_weeks;
        none_sooner = λ e k from sooner. ap (trading closed) (sym (reached tenth e in_calendar k from)) ∙ search.none (day_number e - day_number tenth) (omega (arith, found_number, from, sooner));
      }

  in_time : (last_day year month closed).year ≤ 2051
  in_time =
      omega (arith, ap (λ (d : Date). d.year) search.day, after_year search.days tenth in_calendar (omega (arith, in_weeks)), within_table year month (accepted year month closed h).month_good)

-- two dates that are the last trading day are one
alone : (year month : ℕ) (closed : List ℕ) (d e : Date) → IsLastDay year month closed d → IsLastDay year month closed e → d ≡ e
alone year month closed d e h k =
    ⊎_elim (λ (l : day_number d < day_number e). absurd (sooner d e h k l))
    (λ (l : day_number e ≤ day_number d).
    ⊎_elim (λ (g : day_number e < day_number d). absurd (sooner e d k h g))
    (λ (g : day_number d ≤ day_number e). same_day d e (dated_told d h.in_calendar) (dated_told e k.in_calendar) (omega (arith, l, g)))
    (below_or_not (day_number e) (day_number d)))
    (below_or_not (day_number d) (day_number e))
  where
    sooner : (d e : Date) → IsLastDay year month closed d → IsLastDay year month closed e → day_number d < day_number e → ⊥
    sooner d e h k l = true≢false (sym h.trades ∙ k.none_sooner d h.in_calendar h.from_tenth l)

-- the test of a date by two lists that agree on it
same_test : (closed others : List ℕ) (d : Date) → closed_on closed d ≡ closed_on others d → trading closed d ≡ trading others d
unfolding trading
same_test closed others d = ap (λ (c : Bool). not (weekend (weekday d) || c))

-- a search finds no date before its start
search_from : (n : ℕ) (closed : List ℕ) (d : Date) → dated d ≡ true → day_number d ≤ day_number (first_trading n closed d)
search_from n closed d h =
    let end = searched n closed d in
    omega (arith, ap day_number end.day, after_number end.days d h)

-- and depends on the closed dates between the two alone
same_between : (n : ℕ) (closed others : List ℕ) (d : Date) → dated d ≡ true
    → ((e : Date) → dated e ≡ true → day_number d ≤ day_number e → day_number e ≤ day_number (first_trading n closed d) → closed_on closed e ≡ closed_on others e)
    → first_trading n closed d ≡ first_trading n others d
unfolding first_trading
same_between zero closed others d h same = refl
same_between (suc n) closed others d h same =
    let alike : trading others d ≡ trading closed d = sym (same_test closed others d (same d h (omega arith) (search_from (suc n) closed d h))) in
    go (trading closed d) refl alike (same_between n closed others (next_day d) (gregorian.next_dated d h))
  where
    go : (t : Bool) → trading closed d ≡ t → trading others d ≡ trading closed d
        → (((e : Date) → dated e ≡ true → day_number (next_day d) ≤ day_number e → day_number e ≤ day_number (first_trading n closed (next_day d)) → closed_on closed e ≡ closed_on others e)
        → first_trading n closed (next_day d) ≡ first_trading n others (next_day d))
        → first_trading (suc n) closed d ≡ first_trading (suc n) others d
    go true e alike later = first_here n closed d e ∙ sym (first_here n others d (alike ∙ e))
    go false e alike later =
        let on = first_later n closed d e in
        on ∙ later (λ f k from to. same f k (omega (arith, from, gregorian.next_number d h)) (omega (arith, to, ap day_number on))) ∙ sym (first_later n others d (alike ∙ e))

-- the last trading day as the paper has it, and that there always is one (02, e, 2 and 3 and 4)
pub last_day_shown : LastDayShown
unfolding last_day
last_day_shown =
    record {
      found = found;
      alone = alone;
      in_time = in_time;
      thirteen_weeks = thirteen_weeks;
      in_order = λ d e h k. in_order d e (dated_told d h) (dated_told e k);
      own_number_lem = λ d h. own_number_lem d (dated_told d h);
      none_else_matters = λ year month closed others h same. same_between 91 closed others (tenth_of year month) (tenth_dated year month h) same;
    }
