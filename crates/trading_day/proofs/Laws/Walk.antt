-- The walk over the days and over the closed dates beside it: what it keeps, when it stops, and what it then has found.
use Rattle.numbers.proofs.Words.{ℕ, suc, ◌+◌, ◌-◌, ◌≤◌, ◌<◌, arith, ◌≡◌, refl, sym, ap, ap₂, ◌∙◌, Bool, true, false, not, ◌||◌, List, length, drop, ascending}
use Rattle.rules.specs.declared.dates.{Date.Date}
use Rattle.rules.specs.Calendar.{dated, weekday, next_day, next_weekday}
use Rattle.rules.specs.LastTradingDay.{number_of_date, weekend, closed_on, trading, first_trading, days_after}
use Rattle.calendar_laws.proofs.Days.{gregorian}
use Rattle.calendar_laws.proofs.Search.{after_dated, after_year, after_apart, first_here, first_later}
use Rattle.trading_day.specs.Walk.{not_below, Passed, starts_with}
use Rattle.trading_day.proofs.Laws.Passed.{passed_on, among_ascending}

-- what a search is given
pub record Given (start : Date) (closed : List ℕ) : Type 0 where
  pub in_calendar : dated start ≡ true
  pub in_years : start.year ≤ 2050
  pub in_turn_lem : ascending closed ≡ true

-- so many days have been walked and are no trading days; the closed dates before a place are below the date, and those from there on are yet to come
pub record Walk (closed : List ℕ) (start date : Date) (w at days : ℕ) : Type 0 where
  pub day : date ≡ days_after days start
  pub named : w ≡ weekday date
  pub place : at ≤ length closed
  pub passed : (n : ℕ) → number_of_date date ≤ n → not_below n (drop at closed) ≡ not_below n closed
  pub within : days ≤ 91
  pub rest : first_trading (91 - days) closed date ≡ first_trading 91 closed start

pub walk_start : (closed : List ℕ) (start : Date) {w : ℕ} → w ≡ weekday start → Walk closed start start w 0 0
unfolding days_after
walk_start closed start named = record { day = refl; named = named; place = omega arith; passed = λ n h. refl; within = omega arith; rest = refl }

-- a weekday is one of seven
pub weekday_most : (d : Date) → weekday d ≤ 7
unfolding weekday
weekday_most d = omega arith

module _ {closed : List ℕ} {start date : Date} {w at days : ℕ} (g : Given start closed) (walk : Walk closed start date w at days) where
  -- the date is in the calendar, in 2051 at the latest
  dated_now : dated date ≡ true
  dated_now = ap dated walk.day ∙ after_dated days start g.in_calendar

  pub year_most : date.year ≤ 2051
  year_most = omega (arith, ap (λ (d : Date). d.year) walk.day, after_year days start g.in_calendar (omega (arith, walk.within)), g.in_years)

  -- there is a day more to search
  one_more : (more : ℕ) → 91 - days ≡ suc more → first_trading (suc more) closed date ≡ first_trading 91 closed start
  one_more more e = ap (λ (n : ℕ). first_trading n closed date) (sym e) ∙ walk.rest

  -- a trading day ends the walk
  pub walk_stop : days < 91 → trading closed date ≡ true → date ≡ first_trading 91 closed start
  walk_stop h trades = sym (first_here (91 - days - 1) closed date trades) ∙ one_more (91 - days - 1) (omega arith)

  -- after all days the search is over
  pub walk_end : 91 ≤ days → date ≡ first_trading 91 closed start
  unfolding first_trading
  walk_end h =
      let none : 91 - days ≡ 0 = omega arith in
      ap (λ (n : ℕ). first_trading n closed date) (sym none) ∙ walk.rest

  -- where the closed dates below the date are passed, it is closed if it stands first of those left
  module _ {n to : ℕ} (number : n ≡ number_of_date date) (on : Passed closed at n to) where
    left_now : drop to closed ≡ not_below (number_of_date date) closed
    left_now = on.left ∙ ap (λ (m : ℕ). not_below m (drop at closed)) number ∙ walk.passed (number_of_date date) (omega arith)

    pub trading_now : {shut : Bool} → shut ≡ (weekend w || starts_with n (drop to closed)) → trading closed date ≡ not shut
    unfolding trading
    trading_now e =
        let stands : starts_with n (drop to closed) ≡ closed_on closed date = ap₂ starts_with number left_now ∙ sym (among_ascending (number_of_date date) closed g.in_turn_lem) in
        sym (ap not (e ∙ ap₂ (λ (v : ℕ) (c : Bool). weekend v || c) walk.named stands))

    -- any other day leads to the next
    pub walk_next : {next : Date} {v : ℕ} → days < 91 → trading closed date ≡ false → next ≡ next_day date → v ≡ next_weekday w → Walk closed start next v to (days + 1)
    unfolding days_after
    walk_next {next} {v} h shut e f =
        let later : days + 1 ≡ suc days = omega arith in
        let day_next : next ≡ days_after (days + 1) start = e ∙ ap next_day walk.day ∙ ap (λ (n : ℕ). days_after n start) (sym later) in
        let higher : number_of_date date < number_of_date next =
        omega (arith, ap number_of_date walk.day, ap number_of_date day_next, after_apart start g.in_calendar days (days + 1) (omega arith)) in
        record {
          day = day_next;
          named = f ∙ ap next_weekday walk.named ∙ sym (gregorian.next_weekday_lem date dated_now) ∙ ap weekday (sym e);
          place = on.place;
          passed = λ n above. ap (not_below n) left_now ∙ passed_on (number_of_date date) n (omega (arith, above, higher)) closed;
          within = omega arith;
          rest = ap (first_trading (91 - (days + 1)) closed) e ∙ sym (first_later (91 - (days + 1)) closed date shut) ∙ one_more (91 - (days + 1)) (omega arith);
        }
