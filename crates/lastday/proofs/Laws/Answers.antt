-- What is printed for a row: when it is which text, and how long it is.
use Rattle.numbers.proofs.Words.{ℕ, zero, suc, ◌+◌, ◌-◌, ◌^◌, ◌≤◌, ◌<◌, arith, ◌≡◌, refl, sym, ap, ap₂, subst, ◌∙◌, Bool, true, false, not, cond, List, [], ◌∷◌, length, length-append, take, drop, get_or-take, eqb, eqb-true, leb, le-leb, lt-leb, ◌and◌, every, entry}
use Rattle.numbers.specs.Text.{bytes, decimal, is_number}
use Rattle.numbers.proofs.Tests.{fails_left, fails_right, together}
use Rattle.std.proofs.Common.{Ok, Err}
use Rattle.rules.specs.declared.dates.{Date.Date}
use Rattle.rules.specs.Words.{LastDay}
use Rattle.rules.specs.Listing.{row, refusal_row}
use Rattle.rules.specs.Calls.{◌if◌, first}
use Rattle.rules.specs.LastTradingDay.{number_of_date, last_day, closed_dates_good, last_day_number, last_day_answer}
use Rattle.rules.specs.Calendar.{in_thirty_years}
use Rattle.calendar_laws.proofs.Days.{dated_told}
use Rattle.calendar_laws.proofs.Order.{day_limit}
use Rattle.calendar_laws.proofs.Search.{last_day_shown}
use Rattle.listing.specs.{Columns.field, Laid.Laid}
use Rattle.listing.proofs.Laws.Most.{decimal_most}
use Rattle.lastday.specs.Rows.{fields_of, numbers_of, row_good, answer_row, bad_row, answer_to, row_answer}
use Rattle.lastday.specs.Fields.{NumbersRead}

-- the first entries of what comes after two, and what comes after two of the first entries
later_part : (n : ℕ) (xs : List ℕ) → take n (drop 2 xs) ≡ drop 2 (take (suc (suc n)) xs)
later_part zero [] = refl
later_part zero (x ∷ []) = refl
later_part zero (x ∷ y ∷ xs) = refl
later_part (suc n) [] = refl
later_part (suc n) (x ∷ []) = refl
later_part (suc n) (x ∷ y ∷ xs) = refl

-- a row is read or not
good_answer : (text : List ℕ) → row_good text ≡ true → row_answer text ≡ answer_to (numbers_of text)
unfolding row_answer
good_answer text h = ap (λ (t : Bool). cond t (answer_to (numbers_of text)) bad_row) h

bad_answer : (text : List ℕ) → row_good text ≡ false → row_answer text ≡ bad_row
unfolding row_answer
bad_answer text h = ap (λ (t : Bool). cond t (answer_to (numbers_of text)) bad_row) h

pub long_row : (text : List ℕ) → 4_096 < length text → row_answer text ≡ bad_row
unfolding row_good
long_row text h = bad_answer text (fails_left (leb (length text) 4_096) (every is_number (fields_of text) and leb 2 (length (fields_of text))) (lt-leb (length text) 4_096 h))

-- a field is no number
pub no_numbers : (text : List ℕ) → every is_number (fields_of text) ≡ false → row_answer text ≡ bad_row
unfolding row_good
no_numbers text isnt = bad_answer text (fails_right (leb (length text) 4_096) _ (fails_left (every is_number (fields_of text)) _ isnt))

module _ {text numbers : List ℕ} {count : ℕ} (r : NumbersRead text numbers count) where
  -- there is one alone
  pub few_numbers : count < 2 → row_answer text ≡ bad_row
  unfolding row_good
  few_numbers few = bad_answer text (fails_right (leb (length text) 4_096) _ (fails_right (every is_number (fields_of text)) _ (lt-leb 2 (length (fields_of text)) (omega (arith, few, r.counted)))))

  -- there are two or more
  module _ (fit : length text ≤ 4_096) (some : 2 ≤ count) where
    read_row : row_good text ≡ true
    unfolding row_good
    read_row = together (le-leb (length text) 4_096 fit) (together r.good (le-leb 2 (length (fields_of text)) (omega (arith, some, r.counted))))

    entry_read : (i : ℕ) → i < 2 → entry numbers i ≡ entry (numbers_of text) i
    entry_read i h = sym (get_or-take count numbers i 0 (omega (arith, h, some))) ∙ ap (λ (ns : List ℕ). entry ns i) r.read

    pub answer_read : {answer : LastDay} → answer ≡ last_day_answer (entry numbers 0) (entry numbers 1) (take (count - 2) (drop 2 numbers)) → row_answer text ≡ answer_row answer
    answer_read e =
        let all : suc (suc (count - 2)) ≡ count = omega (arith, some) in
        let rest : take (count - 2) (drop 2 numbers) ≡ drop 2 (numbers_of text) =
        later_part (count - 2) numbers ∙ ap (λ (n : ℕ). drop 2 (take n numbers)) all ∙ ap (drop 2) r.read in
        good_answer text read_row
        ∙ sym (ap answer_row (e ∙ ap₂ (λ (year month : ℕ). last_day_answer year month (take (count - 2) (drop 2 numbers))) (entry_read 0 (omega arith)) (entry_read 1 (omega arith)) ∙ ap (last_day_answer (entry (numbers_of text) 0) (entry (numbers_of text) 1)) rest))

-- how long they are
on_length : (d : Date) → length (answer_row (Ok d)) ≡ length (decimal (number_of_date d)) + 1
unfolding answer_row row
on_length d = length-append (decimal (number_of_date d)) (10 ∷ [])

refused_length : (number : ℕ) → length (answer_row (Err number)) ≡ 8 + (length (decimal number) + 1)
unfolding answer_row row bytes
refused_length number = let digits = length-append (decimal number) (10 ∷ []) in omega (arith, digits)

-- an answer that is a date: there is room for its digits and the row's end, and written they are its text
module _ {answer : LastDay} {d : Date} {n : ℕ} (is : answer ≡ Ok d) (e : n ≡ number_of_date d) where
  pub on_room : (at : ℕ) {room : ℕ} → at + length (answer_row answer) ≤ room → at + length (decimal n) < room
  on_room at h = omega (arith, h, ap (λ (a : LastDay). length (answer_row a)) is, on_length d, ap (λ (m : ℕ). length (decimal m)) e)

  pub on_laid : {was now : List ℕ} {at next : ℕ} → Laid was at (field (decimal n) 10) now next → Laid was at (answer_row answer) now next
  unfolding answer_row row
  on_laid {was} {now} {at} {next} =
      subst (λ (text : List ℕ). Laid was at text now next) (ap (λ (m : ℕ). field (decimal m) 10) e ∙ sym (ap answer_row is))

-- an answer that is a refusal
module _ {answer : LastDay} {number : ℕ} (is : answer ≡ Err number) where
  pub refused_room : (at : ℕ) {room : ℕ} → at + length (answer_row answer) ≤ room → at + length (refusal_row number) ≤ room
  unfolding answer_row
  refused_room at h = omega (arith, h, ap (λ (a : LastDay). length (answer_row a)) is)

  pub refused_laid : {was now : List ℕ} {at next : ℕ} → Laid was at (refusal_row number) now next → Laid was at (answer_row answer) now next
  unfolding answer_row
  refused_laid {was} {now} {at} {next} = subst (λ (text : List ℕ). Laid was at text now next) (sym (ap answer_row is))

-- no refusal is above 31, and the number of no last trading day has more than eight digits
number_most : (year month : ℕ) (closed : List ℕ) → last_day_number year month closed ≤ 31
unfolding last_day_number first
number_most year month closed = go (in_thirty_years year month) (closed_dates_good closed)
  where
    go : (m c : Bool) → first (30 if not m ∷ 31 if not c ∷ []) ≤ 31
    go true true = omega arith
    go true false = omega arith
    go false c = omega arith

date_most : (year month : ℕ) (closed : List ℕ) → last_day_number year month closed ≡ 0 → number_of_date (last_day year month closed) < 10 ^ 8
unfolding number_of_date
date_most year month closed h =
    let d = last_day year month closed in
    let told = dated_told d (last_day_shown.found year month closed h).in_calendar in
    omega (arith, last_day_shown.in_time year month closed h, told.month_most, day_limit d told)

answer_most : (year month : ℕ) (closed : List ℕ) → length (answer_row (last_day_answer year month closed)) ≤ 11
unfolding last_day_answer
answer_most year month closed = go (eqb (last_day_number year month closed) 0) refl
  where
    go : (t : Bool) → eqb (last_day_number year month closed) 0 ≡ t → length (answer_row (cond t (Ok (last_day year month closed)) (Err (last_day_number year month closed)))) ≤ 11
    go true e =
        let d = last_day year month closed in
        omega (arith, on_length d, decimal_most 7 (number_of_date d) (date_most year month closed (eqb-true _ 0 e)))
    go false e =
        let number = last_day_number year month closed in
        omega (arith, refused_length number, decimal_most 1 number (omega (arith, number_most year month closed)))

-- so what is printed for a row has at most 11 bytes
pub row_most_lem : (text : List ℕ) → length (row_answer text) ≤ 11
unfolding row_answer row bytes
row_most_lem text = go (row_good text)
  where
    go : (t : Bool) → length (cond t (answer_to (numbers_of text)) bad_row) ≤ 11
    go true = answer_most (entry (numbers_of text) 0) (entry (numbers_of text) 1) (drop 2 (numbers_of text))
    go false = omega arith
