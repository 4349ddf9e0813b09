-- Texts and numbers in base ten, as bytes in ASCII; the parts of a text.
use Rattle.std.specs.Prelude.{ℕ, zero, suc, ◌+◌, ◌-◌, ◌*◌, ◌/◌, ◌%◌, Bool, true, false, cond, List, [], ◌∷◌, ltb, eqb, length, ℤ, pos, negsuc}
use Prim.Native.Char.{code}
use Prim.Native.String.{String, [] as none, ◌∷◌ as ◌then◌}
use Rattle.numbers.specs.Whole.{between}
use Rattle.numbers.specs.Lists.{◌and◌, every}

-- the bytes of a text
unfoldable pub bytes : String → List ℕ
bytes none = []
bytes (c then cs) = code c ∷ bytes cs

-- a number in front of what follows; `turns` bounds its digits
unfoldable pub digits_from : ℕ → ℕ → List ℕ → List ℕ
digits_from zero n after = after
digits_from (suc turns) n after =
    elim (ltb n 10) [ true ↦ (48 + n) ∷ after | false ↦ digits_from turns (n / 10) ((48 + n % 10) ∷ after) ]

-- a number below 10^20
unfoldable pub decimal : ℕ → List ℕ
decimal n = digits_from 20 n []

-- a whole number, with a minus sign where it is below 0
unfoldable pub signed_decimal : ℤ → List ℕ
signed_decimal (pos n) = decimal n
signed_decimal (negsuc n) = 45 ∷ decimal (n + 1)

-- the number that digits in ASCII stand for, after a number that stands in front of them; in front of digits alone stands 0
unfoldable pub digits_after : ℕ → List ℕ → ℕ
digits_after n [] = n
digits_after n (digit ∷ digits) = digits_after (10 * n + (digit - 48)) digits

abbrev pub digits_value : List ℕ → ℕ
digits_value = digits_after 0

-- a number in digits: one or more, and within 32 bits
abbrev pub is_digit : ℕ → Bool
is_digit = between 48 57

unfoldable pub is_number : List ℕ → Bool
is_number word = ltb 0 (length word) and every is_digit word and ltb (digits_value word) 4_294_967_296

-- a byte in front of the first part of a text; where there is no part, it is one
unfoldable pub in_front : ℕ → List (List ℕ) → List (List ℕ)
in_front b [] = (b ∷ []) ∷ []
in_front b (part ∷ parts) = (b ∷ part) ∷ parts

-- the parts of a text, each ended by a byte; what follows the last one is a part too where it is not empty
unfoldable pub parts_of : ℕ → List ℕ → List (List ℕ)
parts_of end [] = []
parts_of end (b ∷ bs) = cond (eqb b end) ([] ∷ parts_of end bs) (in_front b (parts_of end bs))

-- every definition above, unfolded at once
unfoldable pub computed : Unit {0}
unfolding bytes digits_from decimal signed_decimal digits_after is_number in_front parts_of
computed = tt
