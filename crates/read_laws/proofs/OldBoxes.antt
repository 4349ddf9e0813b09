-- Old boxes: where no line of an accepted file is taken out, its listing is document 01's with a column of noughts.
use Rattle.numbers.proofs.Words.{ℕ, ◌<◌, arith, ◌≡◌, sym, ap, ◌∙◌, Bool, true, false, List, [], ◌∷◌, ◌++◌, flat_map, eq-eqb, length, counted, entry, entry_ℤ}
use Rattle.numbers.specs.Text.{bytes, decimal, signed_decimal}
use Rattle.rules.specs.declared.book.{Book.Book, Section.Section, Notice.Notice}
use Rattle.numbers.proofs.Passing.{flat_map_same}
use Rattle.rules.specs.Book.{held_sections, filed_notices, section_at}
use Rattle.rules.specs.Calls.{count}
use Rattle.rules.specs.Expiry.SamePerson.{removed_of}
use Rattle.rules.specs.Expiry.Call.{remaining, terminated, lines, kept}
use Rattle.rules.specs.File.{Lent, Run, read_whole, file_answer, file_lists}
use Rattle.rules.specs.Listing.{row, row_of, line_row, section_row, listing_bytes, listing_of, printed_with}
use Rattle.rules.specs.OldBoxes.{listing_before, OldBoxes}
use Rattle.book_laws.proofs.ExpiryLists.{all_kept, none_lapsed, all_delivered, register_rows, delivered_written, terminated_written, lapsed_written}
use Rattle.book_laws.proofs.Good.{facts}
use Rattle.book_laws.proofs.Held.{held_length}
use Rattle.read_laws.proofs.Calls.{whole_sound, lists_handed, sums_handed}

module _ (file : List ℕ) (lent : Lent) (e : (read_whole file lent).number ≡ 0) where
  abbrev run : Run
  run = read_whole file lent

  abbrev b : Book
  b = run.book

  abbrev ss : List Section
  ss = held_sections b

  abbrev ns : List Notice
  ns = filed_notices b

  abbrev left : List ℕ
  left = remaining ss ns

  module _ (none : removed_of ss (lines ss ns) ≡ []) where
    -- all lines formed are counted and printed (01, Program, 1; 02, a, 6)
    lines_counted : (file_answer run).kept ≡ length (lines ss ns)
    unfolding file_answer
    lines_counted = ap (λ (n : ℕ). count n (kept ss ns)) e ∙ ap length (all_kept ss ns none)

    line_rows_lem : flat_map (line_row b (file_lists run lent).lists) (counted 0 (file_answer run).kept) ≡ flat_map (row_of b) (lines ss ns)
    line_rows_lem = rw (lists_handed file lent e, lines_counted, sym (all_kept ss ns none)) (register_rows b lent.lists)

    -- a section's row: what the method leaves it, the rest, nought and its sum (01, Program, 1; 02, a, 8)
    section_row_lem : (i : ℕ) → i < b.held → section_row b (file_lists run lent) i ≡ row ((section_at b i).code ∷ decimal (entry left i) ∷ decimal (entry (terminated ss left) i) ∷ decimal 0 ∷ signed_decimal (entry_ℤ run.sums i) ∷ [])
    unfolding section_row
    section_row_lem i h =
        let book = facts b (whole_sound file lent e).book in
        let held : i < length ss = omega (arith, h, held_length b book.section_places_lem book.held) in
        rw (
          sums_handed file lent e i h,
          lists_handed file lent e,
          delivered_written b lent.lists i held,
          all_delivered ss ns none i,
          terminated_written b lent.lists i held,
          lapsed_written b lent.lists i held,
          none_lapsed ss ns none i,
        )

    abbrev shown : Bool → List ℕ
    shown t = elim t [ true ↦ listing_of (file_answer run) (file_lists run lent) | false ↦ row (bytes "refused" ∷ decimal run.number ∷ decimal run.place ∷ []) ]

    abbrev parts : ℕ → List ℕ → List ℕ → List ℕ
    parts n rows sections = row (bytes "register" ∷ decimal n ∷ []) ++ rows ++ sections

    listing_is : printed_with file lent ≡ listing_before (decimal 0 ∷ []) b run.sums
    unfolding printed_with listing_bytes file_answer listing_before
    listing_is =
        ap shown (eq-eqb run.number 0 e)
        ∙ (λ k. parts (lines_counted k) (line_rows_lem k) (flat_map_same _ _ 0 b.held (λ i h. section_row_lem i (omega (arith, h))) k))

-- Where no line of an accepted file is taken out, its listing is document 01's with a column of noughts (02, a, 8).
pub old_boxes : OldBoxes
unfolding OldBoxes
old_boxes file lent e none = listing_is file lent e none
