-- A text laid into a list from a place on.
use Rattle.std.specs.Prelude.{ℕ, ◌+◌, ◌≡◌, List, length}
use Rattle.rules.specs.Words.{put}

-- `now` is `was` with the text at a place, and `next` is the place after the text
pub record Laid (was : List ℕ) (at : ℕ) (text : List ℕ) (now : List ℕ) (next : ℕ) : Type 0 where
  pub written : now ≡ put was at text
  pub ends : next ≡ at + length text
