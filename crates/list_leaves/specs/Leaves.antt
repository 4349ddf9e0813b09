-- Entries of lists: how many are alike, where two lists have two numbers, and what a list is when one entry has changed.
use Rattle.std.specs.Prelude.{ℕ, suc, ◌+◌, ◌-◌, Bool, cond, List, [], ◌∷◌, length, set, ltb, eqb, ℤ, pos, negsuc, ◌+ℤ◌}
use Rattle.rules.specs.Words.{le_z, ◌and◌, passing, entry, entry_ℤ}

-- how many entries are n
abbrev pub alike : ℕ → List ℕ → ℕ
alike n xs = length (passing (λ (x : ℕ). eqb x n) xs)

-- the first place where two lists have x and y, the length of the shorter where there is none
unfoldable pub place_of : ℕ → ℕ → List ℕ → List ℕ → ℕ
place_of x y [] seconds = 0
place_of x y (first ∷ firsts) [] = 0
place_of x y (first ∷ firsts) (second ∷ seconds) = cond (eqb first x and eqb second y) 0 (suc (place_of x y firsts seconds))

-- n taken from entry i; nothing changes past the end
abbrev pub lowered : List ℕ → ℕ → ℕ → List ℕ
lowered lots i n = set lots i (entry lots i - n)

-- n added to entry i; nothing changes past the end, or where the sum does not fit 64 bits
abbrev pub raised : List ℕ → ℕ → ℕ → List ℕ
raised lots i n = cond (ltb (entry lots i + n) 18_446_744_073_709_551_616) (set lots i (entry lots i + n)) lots

-- a whole number fits 64 bits with a sign
abbrev pub fits64 : ℤ → Bool
fits64 z = le_z (negsuc 9_223_372_036_854_775_807) z and le_z z (pos 9_223_372_036_854_775_807)

-- z added to entry i; nothing changes past the end, or where the sum does not fit
abbrev pub added : List ℤ → ℕ → ℤ → List ℤ
added sums i z = cond (fits64 (entry_ℤ sums i +ℤ z)) (set sums i (entry_ℤ sums i +ℤ z)) sums
