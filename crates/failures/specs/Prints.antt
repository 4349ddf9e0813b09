-- What is printed of words that the system hands out one by one: no contract names them, so each says that there are some.
use Rattle.std.specs.Prelude.{ℕ, suc, ◌≡◌, true, List, [], ◌∷◌, map, length}
use Rattle.rules.specs.declared.book.{Book.Book, Failures.Failures}
use Rattle.rules.specs.Words.{decimal}
use Rattle.rules.specs.Listing.{row}
use Rattle.rules.specs.Book.{good, held_sections}
use Rattle.rules.specs.Failures.{failures_answer, section_meant, answer_row}
use Rattle.io.specs.Counts.{IsPrefixLen}
use Rattle.listing.specs.Laid.{Laid}
use Rattle.method_laws.specs.Columns.{keys_of}

-- sections that words mean, one after the other, in every good book with these keys (02, n, 1)
pub record Resolved (keys meant : List ℕ) : Type 0 where
  pub words : List (List ℕ)
  pub as_many : length words ≡ length meant
  pub each : (b : Book) → good b ≡ true → keys ≡ keys_of (held_sections b) → meant ≡ map (section_meant b) words

-- the row of three counts (02, n, 2)
abbrev pub counts_row : Failures → List ℕ
counts_row f = row (decimal f.full ∷ decimal f.part ∷ decimal f.none ∷ [])

-- the row of a book for a section asked and those named, by their words (02, n, 1 and 2 and 5)
abbrev pub row_for : Book → List ℕ → List (List ℕ) → List ℕ
row_for b asked named = answer_row (failures_answer b (section_meant b asked) (map (section_meant b) named))

-- a text for so many words, the section asked before those named, from the start of a list
pub record Prints (text : List ℕ → List (List ℕ) → List ℕ) (count : ℕ) (was now : List ℕ) (written : ℕ) : Type 0 where
  pub asked : List ℕ
  pub named : List (List ℕ)
  pub as_many : count ≡ suc (length named)
  pub laid : Laid was 0 (text asked named) now written
  pub within : IsPrefixLen written now
