-- The listing over what the writer is lent is the listing of the definitions (01, Program, 1; 02, a, 4 and 6).
use Rattle.numbers.proofs.Words.{ℕ, ◌≤◌, ◌<◌, arith, ◌≡◌, sym, ap, ap₂, List, [], ◌∷◌, append_assoc, append-nil, pos, entry, entry_ℤ}
use Rattle.numbers.specs.Text.{decimal, signed_decimal}
use Rattle.rules.specs.declared.book.{Book.Book}
use Rattle.rules.specs.Book.{section_at}
use Rattle.rules.specs.Units.{tonnes_of}
use Rattle.rules.specs.File.{Lent}
use Rattle.rules.specs.Listing.{row, line_row, section_row, listing_bytes}
use Rattle.listing.specs.Columns.{code_at, head_row, line_row_of, section_row_of}
use Rattle.listing.proofs.Laws.Parts.{joined}
use Rattle.listing.proofs.Laws.Rows.{texts, texts_same}

module _ (b : Book) (kept : ℕ) (lent : Lent) (codes : List ℕ) where
  -- head, lines, sections
  abbrev pub parts : List (List ℕ)
  parts = head_row kept ∷ texts (line_row_of codes b.lot lent.lists) kept ∷ texts (section_row_of codes lent) b.held ∷ []

  module _ (same : (i : ℕ) → i < 128 → code_at codes i ≡ (section_at b i).code) (held : b.held ≤ 128) (named : (i : ℕ) → i < kept → (entry lent.lists.buyers i < 128) × (entry lent.lists.sellers i < 128) × (entry lent.lists.lots i ≤ 1_000_000)) where
    pub lines_same : (i : ℕ) → i < kept → line_row_of codes b.lot lent.lists i ≡ line_row b lent.lists i
    unfolding line_row
    lines_same i h =
        let ls = lent.lists in
        ap₂ (λ (x y : List ℕ). row (x ∷ decimal (entry ls.elevators i) ∷ y ∷ decimal (entry ls.lots i) ∷ decimal (tonnes_of b.lot (record { 0 = pos (entry ls.lots i) })).0 ∷ [])) (same _ (named i h).0) (same _ (named i h).1)

    sections_same : (i : ℕ) → i < b.held → section_row_of codes lent i ≡ section_row b lent i
    unfolding section_row
    sections_same i h =
        let ls = lent.lists in
        ap (λ (x : List ℕ). row (x ∷ decimal (entry ls.delivered i) ∷ decimal (entry ls.terminated i) ∷ decimal (entry ls.lapsed i) ∷ signed_decimal (entry_ℤ lent.sums i) ∷ [])) (same i (omega (arith, h, held)))

    pub listing_parts : listing_bytes b kept lent ≡ joined parts
    unfolding listing_bytes
    listing_parts =
        sym
        (rw (append-nil, append_assoc, texts_same (line_row_of codes b.lot lent.lists) _ kept lines_same, texts_same (section_row_of codes lent) _ b.held sections_same))
