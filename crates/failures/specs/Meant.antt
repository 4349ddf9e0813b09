-- The section that a word means, on the keys of the sections held.
use Rattle.std.specs.Prelude.{ℕ, cond, List, ltb, eqb, length, get_or}
use Rattle.rules.specs.Words.{◌and◌, passing, counted, entry, is_number, digits_value}
use Rattle.rules.specs.Failures.{no_section}

-- the places from one on at which a key stands; and the first of all
abbrev pub places_from : List ℕ → ℕ → ℕ → ℕ → List ℕ
places_from keys key place left = passing (λ (i : ℕ). eqb (entry keys i) key) (counted place left)

unfoldable pub place_of : List ℕ → ℕ → ℕ
place_of keys key = get_or (places_from keys key 0 (length keys)) 0 no_section

-- the number in a word, where it is below so many
unfoldable pub number_below : ℕ → List ℕ → ℕ
number_below held word = cond (is_number word and ltb (digits_value word) held) (digits_value word) no_section
