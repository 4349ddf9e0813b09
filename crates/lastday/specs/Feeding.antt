-- An input that comes in pieces: what is printed as its bytes come, and what is kept of the row that has not ended.
use Rattle.std.specs.Prelude.{ℕ, ◌≤◌, ◌≡◌, cond, eqb, List, [], ◌∷◌, ◌++◌, length, take}
use Rattle.listing.specs.Laid.{Laid}
use Rattle.lastday.specs.Rows.{row_answer}

-- of a row that is too long, one byte more than the most is kept
abbrev pub kept_most : ℕ
kept_most = 4_097

-- a byte: it ends the row, or it is put to what is kept of it
abbrev pub byte_text : List ℕ → ℕ → List ℕ
byte_text kept b = cond (eqb b 10) (row_answer kept) []

abbrev pub byte_kept : List ℕ → ℕ → List ℕ
byte_kept kept b = cond (eqb b 10) [] (take kept_most (kept ++ (b ∷ [])))

-- a piece of the input
unfoldable pub text_of : List ℕ → List ℕ → List ℕ
text_of kept [] = []
text_of kept (b ∷ bs) = byte_text kept b ++ text_of (byte_kept kept b) bs

unfoldable pub kept_after : List ℕ → List ℕ → List ℕ
kept_after kept [] = kept
kept_after kept (b ∷ bs) = kept_after (byte_kept kept b) bs

-- the end of the input: a row that has begun ends there
abbrev pub last_text : List ℕ → List ℕ
last_text kept = cond (eqb (length kept) 0) [] (row_answer kept)

-- all pieces, one after the other, and the end
unfoldable pub printed_of : List ℕ → List (List ℕ) → List ℕ
printed_of kept [] = last_text kept
printed_of kept (piece ∷ pieces) = text_of kept piece ++ printed_of (kept_after kept piece) pieces

-- what bytes leave: a text laid into a list from a place on, and what is kept of the row, at the start of another list
pub record Fed (out : List ℕ) (at : ℕ) (text out_now : List ℕ) (written : ℕ) (row kept_now : List ℕ) (held : ℕ) : Type 0 where
  pub laid : Laid out at text out_now written
  pub kept : take held kept_now ≡ row
  pub few : held ≤ kept_most
  pub long : length kept_now ≡ kept_most
