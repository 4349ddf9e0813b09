-- The rows of a listing over what the writer is lent: the section codes end to end, and the lists (01, Program, 1).
use Rattle.std.specs.Prelude.{ℕ, ◌*◌, List, [], ◌∷◌, ◌++◌, pos, take, drop}
use Rattle.rules.specs.Words.{flat_map, counted, entry, entry_ℤ, decimal, signed_decimal, bytes}
use Rattle.rules.specs.declared.units.Tonnes.{Tonnes}
use Rattle.rules.specs.Units.{tonnes_of}
use Rattle.rules.specs.Expiry.Call.{Lists, line_of}
use Rattle.rules.specs.File.{Lent}
use Rattle.rules.specs.Listing.{row}

-- seven bytes of the section codes: those of section number i (01, Forms, 7)
abbrev pub code_at : List ℕ → ℕ → List ℕ
code_at codes i = take 7 (drop (7 * i) codes)

-- a text and the byte that ends it (01, Program, 3)
abbrev pub field : List ℕ → ℕ → List ℕ
field text end = text ++ (end ∷ [])

-- how many lines are kept (01, Program, 1; 02, a, 6)
abbrev pub head_row : ℕ → List ℕ
head_row kept = row (bytes "register" ∷ decimal kept ∷ [])

abbrev pub refused_row : ℕ → ℕ → List ℕ
refused_row number place = row (bytes "refused" ∷ decimal number ∷ decimal place ∷ [])

abbrev pub line_row_of : List ℕ → Tonnes → Lists → ℕ → List ℕ
line_row_of codes lot ls i =
    let l = line_of ls i in
    row (code_at codes l.buyer ∷ decimal l.elevator ∷ code_at codes l.seller ∷ decimal l.lots ∷ decimal (tonnes_of lot (record { 0 = pos l.lots })).0 ∷ [])

-- a section's code and its lots, with the byte that ends them; and its row (01, Program, 1; 02, a, 4)
abbrev pub lots_fields : List ℕ → ℕ → ℕ → ℕ → ℕ → ℕ → List ℕ
lots_fields codes i delivered terminated lapsed end =
    field (code_at codes i) 32 ++ (field (decimal delivered) 32 ++ (field (decimal terminated) 32 ++ field (decimal lapsed) end))

abbrev pub section_row_of : List ℕ → Lent → ℕ → List ℕ
section_row_of codes lent i =
    let ls = lent.lists in
    row (code_at codes i ∷ decimal (entry ls.delivered i) ∷ decimal (entry ls.terminated i) ∷ decimal (entry ls.lapsed i) ∷ signed_decimal (entry_ℤ lent.sums i) ∷ [])

-- the rows of the first lines, and of the sections held, by number
abbrev pub line_rows : List ℕ → Tonnes → Lists → ℕ → List ℕ
line_rows codes lot ls lines = flat_map (line_row_of codes lot ls) (counted 0 lines)

abbrev pub section_rows : List ℕ → Lent → ℕ → List ℕ
section_rows codes lent held = flat_map (section_row_of codes lent) (counted 0 held)
