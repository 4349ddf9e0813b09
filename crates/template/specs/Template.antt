-- A text with places for numbers, for signs and for section codes.
use Rattle.std.specs.Prelude.{ℕ, ◌*◌, ◌/◌, ◌%◌, Bool, not, ◌||◌, cond, List, [], ◌∷◌, ◌++◌, ltb, eqb, drop}
use Rattle.rules.specs.Words.{flat_map, ◌and◌, counted, entry, decimal}
use Rattle.io.specs.Digits.{hex_digit_ascii}

-- a byte of a section code: a visible character is itself, but for the backslash; any other byte is \x and its two digits in base 16
abbrev pub visible : ℕ → Bool
visible b = ltb 32 b and ltb b 127 and not (eqb b 92)

abbrev pub escaped : ℕ → List ℕ
escaped b = 92 ∷ 120 ∷ hex_digit_ascii (b / 16) ∷ hex_digit_ascii (b % 16) ∷ []

abbrev pub byte_text : ℕ → List ℕ
byte_text b = cond (visible b) (b ∷ []) (escaped b)

-- the first code of a list of section codes end to end, with 0 for a byte past the end; and the code of a section by its number
unfoldable pub first_code : List ℕ → List ℕ
first_code codes = flat_map (λ (i : ℕ). byte_text (entry codes i)) (counted 0 7)

abbrev pub code_text : List ℕ → ℕ → List ℕ
code_text codes number = first_code (drop (7 * number) codes)

-- a minus sign, but for 0
abbrev pub sign_text : ℕ → List ℕ
sign_text number = cond (eqb number 0) [] (45 ∷ [])

-- in a template `#`, `~` and `@` take the next number each: `#` is the number in base ten, `~` a minus sign where it is not 0, `@` the code of the section
-- of that number; any other byte is itself
abbrev pub takes_number : ℕ → Bool
takes_number c = eqb c 35 || eqb c 126 || eqb c 64

abbrev pub piece_text : ℕ → ℕ → List ℕ → List ℕ
piece_text c number codes =
    cond (eqb c 35) (decimal number) (cond (eqb c 126) (sign_text number) (cond (eqb c 64) (code_text codes number) (c ∷ [])))

unfoldable pub filled : List ℕ → List ℕ → List ℕ → List ℕ
filled [] numbers codes = []
filled (c ∷ template) numbers codes =
    piece_text c (entry numbers 0) codes ++ filled template (drop (cond (takes_number c) 1 0) numbers) codes
