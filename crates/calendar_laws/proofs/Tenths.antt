-- The table of tenths: one test over a whole table, which the checker computes, and what it says at each entry.
use Rattle.numbers.proofs.Words.{ℕ, suc, ◌+◌, ◌-◌, ◌%◌, ◌<◌, ◌≤◌, arith, ◌≡◌, refl, sym, ap, ap₂, ◌∙◌, Bool, true, ◌&&◌, List, [], ◌∷◌, map, length, get_or, counted, entry, same, between, leb, leb-true, cond, false}
use Rattle.numbers.proofs.Tests.{both}
use Rattle.numbers.proofs.Bytes.{same_eq}
use Rattle.numbers.proofs.Changed.{read_at}
use Rattle.numbers.proofs.Ranges.{counted-length, counted_at}
use Rattle.rules.specs.declared.dates.{Date.Date}
use Rattle.rules.specs.Calendar.{days_before_month, day_number, weekday, tenth_of, tenths_of, tenths, in_thirty_years, tenth}
use Rattle.calendar_laws.proofs.Years.{years_counted, before_year}

-- a weekday, worked out without a walk over the years
abbrev weekday_counted : Date → ℕ
weekday_counted d = (years_counted (d.year - 1) + days_before_month d.year d.month + (d.day - 1)) % 7 + 1

weekday_counted_lem : (d : Date) → weekday_counted d ≡ weekday d
unfolding weekday day_number
weekday_counted_lem d = rw (before_year d.year)

abbrev counted_of : ℕ → List ℕ
counted_of year = map (λ (month : ℕ). weekday_counted (tenth_of year month)) (counted 1 12)

counted_of_lem : (year : ℕ) → counted_of year ≡ tenths_of year
unfolding tenths_of
counted_of_lem year = ap (λ (f : ℕ → ℕ). map f (counted 1 12)) (λ i month. weekday_counted_lem (tenth_of year month) i)

-- the test of a table whose first row is of this year: each row has the numbers of its year (01, Forms, 6)
abbrev pub follows : ℕ → List (List ℕ) → Bool
follows year [] = true
follows year (numbers ∷ rows) = same numbers (counted_of year) && follows (suc year) rows

followed : (year : ℕ) (rows : List (List ℕ)) → follows year rows ≡ true → rows ≡ map tenths_of (counted year (length rows))
unfolding counted
followed year [] h = refl
followed year (numbers ∷ rows) h =
    let tests = both (same numbers (counted_of year)) (follows (suc year) rows) h in
    ap₂ ◌∷◌ (same_eq numbers (counted_of year) tests.0 ∙ counted_of_lem year) (followed (suc year) rows tests.1)

-- a table of thirty rows that passes it is the table: the rule, over the whole of it as one thing (02, d, 2; 01, Forms, 6)
pub table_follows : (rows : List (List ℕ)) → length rows ≡ 30 → follows 2021 rows ≡ true → rows ≡ tenths
unfolding tenths
table_follows rows long h = followed 2021 rows h ∙ ap (λ (n : ℕ). map tenths_of (counted 2021 n)) long

-- and each entry of the table is the weekday that the rule gives (01, Forms, 6)
pub tenths_at : (i j : ℕ) → i < 30 → j < 12 → entry (get_or tenths i []) j ≡ weekday (tenth_of (2021 + i) (1 + j))
unfolding tenths tenths_of
tenths_at i j h k =
    ap (λ (numbers : List ℕ). entry numbers j) (read_at tenths_of (counted 2021 30) i 0 [] (omega (arith, counted-length 2021 30)) ∙ ap tenths_of (counted_at 2021 30 i 0 h))
    ∙ read_at (λ (month : ℕ). weekday (tenth_of (2021 + i) month)) (counted 1 12) j 0 0 (omega (arith, counted-length 1 12))
    ∙ ap (λ (month : ℕ). weekday (tenth_of (2021 + i) month)) (counted_at 1 12 j 0 k)

-- the table's entry by year and month, within the table and outside
module _ (year month : ℕ) where
  pub record Within : Type 0 where
    pub from : 2021 ≤ year
    pub to : year ≤ 2050
    pub first : 1 ≤ month
    pub last : month ≤ 12

  pub within_table : in_thirty_years year month ≡ true → Within
  within_table h =
      let parts = both (between 2021 2050 year) (between 1 12 month) h in
      let years = both (leb 2021 year) (leb year 2050) parts.0 in
      let months = both (leb 1 month) (leb month 12) parts.1 in
      record { from = leb-true 2021 year years.0; to = leb-true year 2050 years.1; first = leb-true 1 month months.0; last = leb-true month 12 months.1 }

  pub tenth_entry : in_thirty_years year month ≡ true → entry (get_or tenths (year - 2021) []) (month - 1) ≡ tenth year month
  unfolding tenth
  tenth_entry h =
      let within = within_table h in
      let this_year : 2021 + (year - 2021) ≡ year = omega (arith, within) in
      let this_month : 1 + (month - 1) ≡ month = omega (arith, within) in
      tenths_at (year - 2021) (month - 1) (omega (arith, within)) (omega (arith, within)) ∙ ap₂ (λ (y m : ℕ). weekday (tenth_of y m)) this_year this_month
      ∙ sym (ap (λ (t : Bool). cond t (weekday (tenth_of year month)) 0) h)

  pub tenth_outside : in_thirty_years year month ≡ false → 0 ≡ tenth year month
  unfolding tenth
  tenth_outside h = sym (ap (λ (t : Bool). cond t (weekday (tenth_of year month)) 0) h)
