-- The texts of `calls` over what the writer is lent.
use Rattle.std.specs.Prelude.{ℕ, ◌+◌, List, [], ◌∷◌, cond, ltb, ℤ, length}
use Rattle.rules.specs.Words.{flat_map, counted, entry, entry_ℤ, bytes, decimal, signed_decimal}
use Rattle.rules.specs.declared.book.{Expired.Expired}
use Rattle.rules.specs.Expiry.Call.{Lists}
use Rattle.rules.specs.Listing.{row}
use Rattle.rules.specs.CallsListing.{call_row, delivery_rows}
use Rattle.listing.specs.Columns.{field, lots_fields}

-- the rows of calls that follow one another, from a place on (02, b, 3)
abbrev pub answer_rows : ℕ → List ℕ → List ℕ
answer_rows place numbers = flat_map (λ (i : ℕ). call_row (place + i) (entry numbers i)) (counted 0 (length numbers))

-- what stands after i of a row's n last fields: a space where another follows, byte 10 after the last (01, Program, 3)
abbrev pub end_at : ℕ → ℕ → ℕ
end_at i n = cond (ltb i n) 32 10

-- whole numbers as the last fields of a row, each with the byte that ends it (01, Program, 3)
abbrev pub whole_at : List ℤ → ℕ → List ℕ
whole_at zs i = field (signed_decimal (entry_ℤ zs i)) (end_at (i + 1) (length zs))

abbrev pub wholes : List ℤ → List ℕ
wholes zs = flat_map (whole_at zs) (counted 0 (length zs))

-- how many pairs and lines an expiry has formed, and how many lines are kept (01, Expiry, 7; 02, a, 6)
abbrev pub counts_row : ℕ → ℕ → ℕ → List ℕ
counts_row pairs lines kept = row (bytes "expiry" ∷ decimal pairs ∷ decimal lines ∷ decimal kept ∷ [])

-- the rows of the lots of the sections held, by number (01, Program, 1; 02, a, 4)
abbrev pub lots_at : List ℕ → Lists → ℕ → List ℕ
lots_at codes ls i = lots_fields codes i (entry ls.delivered i) (entry ls.terminated i) (entry ls.lapsed i) 10

abbrev pub lots_rows : List ℕ → Lists → ℕ → List ℕ
lots_rows codes ls held = flat_map (lots_at codes ls) (counted 0 held)

-- what an accepted expiry prints (01, Expiry, 7; 01, Program, 1; 02, a, 4 and 6)
abbrev pub delivery : Expired → Lists → List ℕ
delivery e ls = delivery_rows (record { number = 0; pairs = e.pairs; lines = e.lines; kept = e.kept; book = e.book }) ls
