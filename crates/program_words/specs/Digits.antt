-- The digits of a word, as they are read.
use Rattle.std.specs.Prelude.{ℕ, ◌+◌, ◌-◌, ◌*◌, cond, List, Option, None, Some, ltb}
use Rattle.rules.specs.Words.{◌and◌, digits_value, is_digit, is_number}

-- the number in a word
unfoldable pub number_in : List ℕ → Option ℕ
number_in word = cond (is_number word) (Some (digits_value word)) None

-- a number with one digit more, within 32 bits
unfoldable pub with_digit : ℕ → ℕ → Option ℕ
with_digit n b = cond (is_digit b and ltb (10 * n + (b - 48)) 4_294_967_296) (Some (10 * n + (b - 48))) None
