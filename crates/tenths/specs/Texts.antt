-- What is printed, year by year and number by number (02, d, 3).
use Rattle.std.specs.Prelude.{ℕ, ◌+◌, List, map, cond, eqb}
use Rattle.rules.specs.Words.{decimal}
use Rattle.rules.specs.Calendar.{weekday, tenth_of, tenths_of}
use Rattle.rules.specs.Listing.{row}
use Rattle.listing.specs.Columns.{field}

-- the row of a year
abbrev pub year_row : ℕ → List ℕ
year_row year = row (map decimal (tenths_of year))

-- what comes after number i of a row: byte 10 after the last of twelve, a space after the others
abbrev pub number_end : ℕ → ℕ
number_end i = cond (eqb i 11) 10 32

-- number i of a year's row, and what comes after it
abbrev pub number_field : ℕ → ℕ → List ℕ
number_field year i = field (decimal (weekday (tenth_of year (i + 1)))) (number_end i)
