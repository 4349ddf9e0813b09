-- The length of a listing, part by part: what stands in a row beside its numbers, and their digits.
use Rattle.std.specs.Prelude.{◌^◌, ℕ, suc, ◌+◌, ◌-◌, min, Bool, cond, Option, Some, None, length, ℤ, pos}
use Rattle.rules.specs.Words.{total, listed, every, counted, entry, entry_ℤ, decimal, signed_decimal}
use Rattle.rules.specs.declared.{units.Tonnes.Tonnes}
use Rattle.rules.specs.Units.{tonnes_of}
use Rattle.rules.specs.Expiry.Call.{Lists, line_of}
use Rattle.rules.specs.File.{Lent}
use Rattle.rules.specs.Label.{row_fit, rows_of}

-- the largest number of 64 bits that has d + 1 digits
abbrev pub largest_of : ℕ → ℕ
largest_of d = min (10 ^ suc d - 1) 18_446_744_073_709_551_615

-- a line's row: two codes of seven bytes and five ends; elevator, lots, tonnes (01, Program, 1 and 3)
abbrev pub line_length : Tonnes → ℕ → ℕ → ℕ
line_length lot elevator lots =
    19 + (length (decimal elevator) + (length (decimal lots) + length (decimal (tonnes_of lot (record { 0 = pos lots })).0)))

-- a section's row: a code and five ends; three numbers of lots, and the sum of its margins (01, Program, 1 and 3; 02, a, 4)
abbrev pub section_length : ℕ → ℕ → ℕ → ℤ → ℕ
section_length delivered terminated lapsed sum =
    12 + (length (decimal delivered) + length (decimal terminated) + length (decimal lapsed) + length (signed_decimal sum))

-- the first so many rows of each
abbrev pub lines_length : Tonnes → Lists → ℕ → ℕ
lines_length lot ls n = total (listed n (λ (i : ℕ). line_length lot (entry ls.elevators i) (entry ls.lots i)))

abbrev pub section_at_length : Lent → ℕ → ℕ
section_at_length lent i = let ls = lent.lists in section_length (entry ls.delivered i) (entry ls.terminated i) (entry ls.lapsed i) (entry_ℤ lent.sums i)

abbrev pub sections_length : Lent → ℕ → ℕ
sections_length lent n = total (listed n (section_at_length lent))

-- whether all rows of the register are fit, and what they come to if they are (02, m, 2 and 4)
abbrev pub rows_fit : ℕ → Lists → Bool
rows_fit held ls = every (λ (i : ℕ). row_fit held (line_of ls i)) (counted 0 (rows_of ls))

abbrev pub lines_counted : ℕ → Tonnes → Lists → Option ℕ
lines_counted held lot ls = cond (rows_fit held ls) (Some (lines_length lot ls (rows_of ls))) None
