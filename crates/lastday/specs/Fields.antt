-- The fields of a row, as they are read.
use Rattle.std.specs.Prelude.{ℕ, ◌≤◌, ◌≡◌, true, List, length, take}
use Rattle.rules.specs.Words.{every, is_number}
use Rattle.lastday.specs.Rows.{fields_of, numbers_of}

-- so many numbers were read from a row into a list: each field is one
pub record NumbersRead (text numbers : List ℕ) (count : ℕ) : Type 0 where
  pub within : count ≤ length numbers
  pub good : every is_number (fields_of text) ≡ true
  pub counted : count ≡ length (fields_of text)
  pub read : take count numbers ≡ numbers_of text
