-- Rows that end at blanks.
use Rattle.std.specs.Prelude.{ℕ, ◌≡◌, false, List, eqb, length}
use Rattle.rules.specs.Words.{entry}

-- nothing is cut and nothing changes but blanks
pub record Folded (was now : List ℕ) : Type 0 where
  pub long : length now ≡ length was
  pub stays : (i : ℕ) → eqb (entry was i) 32 ≡ false → entry now i ≡ entry was i
