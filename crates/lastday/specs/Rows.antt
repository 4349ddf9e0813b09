-- The rows of an input, and what is printed for each: a year, a month and closed dates, in base ten, parted by one space.
use Rattle.std.specs.Prelude.{ℕ, Bool, cond, leb, List, [], ◌∷◌, ◌++◌, map, length, drop, Ok, Err}
use Rattle.rules.specs.Words.{LastDay, ◌and◌, flat_map, entry, every, bytes, decimal, is_number, digits_value, parts_of}
use Rattle.rules.specs.Listing.{row, refusal_row}
use Rattle.rules.specs.LastTradingDay.{number_of_date, last_day_answer}

-- the fields of a row: with a space at its end too, each is ended by one
unfoldable pub fields_of : List ℕ → List (List ℕ)
fields_of text = parts_of 32 (text ++ (32 ∷ []))

abbrev pub numbers_of : List ℕ → List ℕ
numbers_of text = map digits_value (fields_of text)

-- the most bytes of a row, and a row that is read: it is not longer, and it is two numbers or more (02, e, 2)
abbrev pub row_most : ℕ
row_most = 4_096

unfoldable pub row_good : List ℕ → Bool
row_good text = leb (length text) row_most and every is_number (fields_of text) and leb 2 (length (fields_of text))

-- what is printed: the date as one number, or the refusal (02, e, 2 and 5)
unfoldable pub answer_row : LastDay → List ℕ
answer_row (Ok d) = row (decimal (number_of_date d) ∷ [])
answer_row (Err number) = refusal_row number

-- for a row, and for one that is not read (02, e, 2 and 5)
abbrev pub bad_row : List ℕ
bad_row = row (bytes "bad row" ∷ [])

abbrev pub answer_to : List ℕ → List ℕ
answer_to numbers = answer_row (last_day_answer (entry numbers 0) (entry numbers 1) (drop 2 numbers))

unfoldable pub row_answer : List ℕ → List ℕ
row_answer text = cond (row_good text) (answer_to (numbers_of text)) bad_row

-- for an input: its rows end in byte 10, the last one also where the input ends (02, e, 2)
unfoldable pub answers_to : List ℕ → List ℕ
answers_to input = flat_map row_answer (parts_of 10 input)
