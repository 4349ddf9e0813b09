-- The rows of the table as the texts that are written one after the other, and how long they are.
use Rattle.numbers.proofs.Words.{ℕ, zero, suc, ◌+◌, arith, ◌≡◌, refl, sym, ap, ap₂, subst, ◌∙◌, List, [], ◌∷◌, ◌++◌, map, map-append, flat_map, length, length-append, drop_of_length-le, append-nil, counted, over}
use Rattle.numbers.specs.Text.{decimal}
use Rattle.numbers.proofs.Lists.{flat_map_last}
use Rattle.numbers.proofs.Ranges.{counted_more}
use Rattle.rules.specs.declared.dates.{Date.Date}
use Rattle.rules.specs.Calendar.{weekday, tenth_of, tenths_of, tenths, table_rows}
use Rattle.rules.specs.Listing.{row}
use Rattle.listing.specs.{Columns.field, Laid.Laid}
use Rattle.listing.proofs.Laws.Digits.{digits_last}
use Rattle.listing.proofs.Laws.Parts.{row_joined}
use Rattle.listing.proofs.Laws.Rows.{texts, texts_more, texts_length}
use Rattle.tenths.specs.Texts.{year_row, number_end, number_field}

-- a year's row is its numbers, each with what comes after it
pub row_numbers : (year : ℕ) → year_row year ≡ texts (number_field year) 12
unfolding tenths_of counted flat_map
row_numbers year = row_joined (map decimal (tenths_of year))

-- a weekday and an end that are those of number i, laid into a list
pub number_laid : {was now : List ℕ} {at next w end : ℕ} (year i : ℕ) → w ≡ weekday (tenth_of year (i + 1)) → end ≡ number_end i
    → Laid was at (field (decimal w) end) now next → Laid was at (number_field year i) now next
number_laid {was} {now} {at} {next} year i e h = subst (λ (text : List ℕ). Laid was at text now next) (ap₂ (λ (w end : ℕ). field (decimal w) end) e h)

-- the rows of lists by number, from a number on
rows_from_lem : (text : List ℕ → List ℕ) (numbers : ℕ → List ℕ) (first n : ℕ) → flat_map text (map numbers (counted first n)) ≡ texts (λ (i : ℕ). text (numbers (first + i))) n
unfolding counted flat_map
rows_from_lem text numbers first zero = refl
rows_from_lem text numbers first (suc n) =
    ap (λ (ms : List ℕ). flat_map text (map numbers ms)) (counted_more first n)
    ∙ ap (flat_map text) (map-append numbers (counted first n) ((first + n) ∷ []))
    ∙ flat_map_last text (map numbers (counted first n)) (numbers (first + n))
    ∙ ap (λ (before : List ℕ). before ++ text (numbers (first + n))) (rows_from_lem text numbers first n)
    ∙ sym (texts_more (λ (i : ℕ). text (numbers (first + i))) n)

-- the table's rows are those of its years
pub table_years : table_rows tenths ≡ texts (λ (i : ℕ). year_row (2021 + i)) 30
unfolding table_rows tenths
table_years = rows_from_lem (λ (numbers : List ℕ). row (map decimal numbers)) tenths_of 2021 30

-- a weekday has one digit: so a number takes two bytes, a row 24, the table 720
pub digit_length : {w : ℕ} (d : Date) → w ≡ weekday d → length (decimal w) ≡ 1
unfolding decimal weekday
digit_length {w = w} d e = ap length (digits_last 19 w [] (omega (arith, e)))

pub number_length : (year i : ℕ) → length (number_field year i) ≡ 2
number_length year i =
    let number = decimal (weekday (tenth_of year (i + 1))) in
    omega (arith, length-append number (number_end i ∷ []), digit_length (tenth_of year (i + 1)) refl)

row_length : (year : ℕ) → length (year_row year) ≡ 24
row_length year = ap length (row_numbers year) ∙ texts_length (number_field year) 2 12 (number_length year)

pub table_length : length (table_rows tenths) ≡ 720
table_length = ap length table_years ∙ texts_length (λ (i : ℕ). year_row (2021 + i)) 24 30 (λ i. row_length (2021 + i))

-- written over a buffer of that length, they are all of it
pub table_whole : (was : List ℕ) → length was ≡ 720 → over (table_rows tenths) was ≡ table_rows tenths
table_whole was long =
    ap (λ (rest : List ℕ). table_rows tenths ++ rest) (drop_of_length-le was {i = length (table_rows tenths)} (omega (arith, long, table_length))) ∙ append-nil (table_rows tenths)

-- What is printed is the table in the source: whatever `calendar::table::tenths` and `printed` answer by their contracts, the second is the first in rows (02, d, 3)
pub printed_is_table : (table : List (List ℕ)) (text : List ℕ) → table ≡ tenths → text ≡ table_rows tenths → text ≡ table_rows table
printed_is_table table text t p = p ∙ ap table_rows (sym t)
