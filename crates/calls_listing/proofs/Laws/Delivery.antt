-- An expiry's text over what the writer is lent is that of the definitions (01, Expiry, 7; 01, Program, 1; 02, a, 4 and 6).
use Rattle.numbers.proofs.Words.{ℕ, ◌≤◌, ◌<◌, arith, ◌≡◌, sym, ap, ◌∙◌, List, [], ◌∷◌, append_assoc, append-nil, entry}
use Rattle.numbers.specs.Text.{decimal}
use Rattle.rules.specs.declared.book.{Expired.Expired}
use Rattle.rules.specs.Book.{section_at}
use Rattle.rules.specs.Expiry.Call.{Lists}
use Rattle.rules.specs.Listing.{row}
use Rattle.rules.specs.CallsListing.{lots_row, delivery_rows}
use Rattle.listing.specs.Columns.{code_at, head_row, line_row_of}
use Rattle.listing.proofs.Laws.Listing.{lines_same}
use Rattle.listing.proofs.Laws.Parts.{joined, lots_row_lem}
use Rattle.listing.proofs.Laws.Rows.{texts, texts_same}
use Rattle.calls_listing.specs.Texts.{counts_row, lots_at, delivery}

module _ (e : Expired) (ls : Lists) (codes : List ℕ) where
  -- counts, head, lines, sections
  abbrev pub parts : List (List ℕ)
  parts = counts_row e.pairs e.lines e.kept ∷ head_row e.kept ∷ texts (line_row_of codes e.book.lot ls) e.kept ∷ texts (lots_at codes ls) e.book.held ∷ []

  module _ (same : (i : ℕ) → i < 128 → code_at codes i ≡ (section_at e.book i).code) (held : e.book.held ≤ 128) (named : (i : ℕ) → i < e.kept → (entry ls.buyers i < 128) × (entry ls.sellers i < 128) × (entry ls.lots i ≤ 1_000_000)) where
    lots_same : (i : ℕ) → i < e.book.held → lots_at codes ls i ≡ lots_row e.book ls i
    lots_same i h =
        sym (lots_row_lem codes i (entry ls.delivered i) (entry ls.terminated i) (entry ls.lapsed i))
        ∙ ap (λ (x : List ℕ). row (x ∷ decimal (entry ls.delivered i) ∷ decimal (entry ls.terminated i) ∷ decimal (entry ls.lapsed i) ∷ [])) (same i (omega (arith, h, held)))

    pub delivery_parts : delivery e ls ≡ joined parts
    unfolding delivery_rows
    delivery_parts =
        sym
        (rw (append-nil, texts_same (line_row_of codes e.book.lot ls) _ e.kept (lines_same e.book e.kept (record { lists = ls; sums = [] }) codes same held named), texts_same (lots_at codes ls) _ e.book.held lots_same)
        (simp append_assoc))
