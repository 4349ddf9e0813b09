-- What an expiry writes into the lists that it is lent, read back, and what that is where no line is taken out.
use Rattle.numbers.proofs.Words.{ℕ, ◌<◌, arith, ◌≡◌, refl, sym, ap, ◌∙◌, List, [], map, flat_map, length, length-map, get_or, counted, listed, entry, over, gathered}
use Rattle.rules.specs.declared.book.{Book.Book, Section.Section, Notice.Notice}
use Rattle.numbers.proofs.Lists.{over_at}
use Rattle.numbers.proofs.Passing.{none_passing, flat_map_map, over-map}
use Rattle.numbers.proofs.Ranges.{listed-length, listed_most, listed_known, less_at}
use Rattle.rules.specs.Book.{held_sections, filed_notices}
use Rattle.rules.specs.Expiry.{size}
use Rattle.rules.specs.Expiry.Passes.{Line}
use Rattle.rules.specs.Expiry.SamePerson.{same_person, removed_of, kept_of, lots_naming, lapsed_of}
use Rattle.rules.specs.Expiry.Call.{Lists, line_of, remaining, terminated, lines, kept, lapsed, delivered, expiry_written}
use Rattle.rules.specs.Listing.{row_of, line_row}

-- an entry for each section (01, Expiry, 1.2; 02, a, 4)
pub terminated_length : (ss : List Section) (left : List ℕ) → length (terminated ss left) ≡ length ss
unfolding terminated
terminated_length ss left = listed-length _ _ ∙ length-map ss size

module _ (ss : List Section) (ns : List Notice) where
  pub remaining_length : length (remaining ss ns) ≡ length ss
  unfolding remaining
  remaining_length = listed-length _ _ ∙ listed-length _ _ ∙ listed-length _ _ ∙ length-map ss size

  pub lapsed_length : length (lapsed ss ns) ≡ length ss
  unfolding lapsed lapsed_of
  lapsed_length = listed-length _ _

  pub delivered_length : length (delivered ss ns) ≡ length ss
  unfolding delivered
  delivered_length = listed-length _ _ ∙ remaining_length

  -- where no line is taken out, all lines are kept, nothing lapses, and what the method leaves is delivered (02, a, 3 and 4 and 5)
  module _ (none : removed_of ss (lines ss ns) ≡ []) where
    pub all_kept : kept ss ns ≡ lines ss ns
    unfolding kept kept_of removed_of
    all_kept = none_passing (same_person ss) (lines ss ns) none

    pub none_lapsed : (i : ℕ) → entry (lapsed ss ns) i ≡ 0
    unfolding lapsed lapsed_of lots_naming gathered
    none_lapsed i = omega (arith, ap (λ (out : List Line). entry (listed (length ss) (lots_naming out)) i) none, listed_most (length ss) (lots_naming []) (λ (j : ℕ). 0) (λ j. omega arith) i)

    pub all_delivered : (i : ℕ) → entry (delivered ss ns) i ≡ entry (remaining ss ns) i
    unfolding delivered
    all_delivered i = omega (arith, less_at (remaining ss ns) (lapsed ss ns) i, none_lapsed i)

abbrev pub no_line : Line
no_line = record { buyer = 0; elevator = 0; seller = 0; lots = 0 }

-- read back: the register, and an entry for each section held (01, Calls, 7; 01, Expiry call, 2; 02, a, 6)
module _ (b : Book) (lists : Lists) where
  abbrev ss : List Section
  ss = held_sections b

  abbrev ns : List Notice
  ns = filed_notices b

  abbrev after : Lists
  after = expiry_written b lists

  pub line_written : (i : ℕ) → i < length (kept ss ns) → get_or (kept ss ns) i no_line ≡ line_of after i
  unfolding expiry_written
  line_written i h =
      let column : (read : Line → ℕ) (list : List ℕ) → read (get_or (kept ss ns) i no_line) ≡ entry (over (map read (kept ss ns)) list) i =
      λ read list. sym (over-map read (kept ss ns) list i no_line 0 h) in
      λ k.
      record {
        buyer = column (λ l. l.buyer) lists.buyers k;
        elevator = column (λ l. l.elevator) lists.elevators k;
        seller = column (λ l. l.seller) lists.sellers k;
        lots = column (λ l. l.lots) lists.lots k;
      }

  pub register_written : listed (length (kept ss ns)) (line_of after) ≡ kept ss ns
  register_written = sym (listed_known (length (kept ss ns)) (kept ss ns) no_line (line_of after) refl line_written)

  -- as rows (01, Program, 1)
  pub register_rows : flat_map (line_row b after) (counted 0 (length (kept ss ns))) ≡ flat_map (row_of b) (kept ss ns)
  unfolding line_row
  register_rows = sym (flat_map_map (row_of b) (line_of after) (counted 0 (length (kept ss ns)))) ∙ ap (flat_map (row_of b)) register_written

  module _ (i : ℕ) (held : i < length ss) where
    pub delivered_written : entry after.delivered i ≡ entry (delivered ss ns) i
    unfolding expiry_written
    delivered_written = over_at (delivered ss ns) lists.delivered i 0 (omega (arith, held, delivered_length ss ns))

    pub terminated_written : entry after.terminated i ≡ entry (terminated ss (remaining ss ns)) i
    unfolding expiry_written
    terminated_written = over_at (terminated ss (remaining ss ns)) lists.terminated i 0 (omega (arith, held, terminated_length ss (remaining ss ns)))

    pub lapsed_written : entry after.lapsed i ≡ entry (lapsed ss ns) i
    unfolding expiry_written
    lapsed_written = over_at (lapsed ss ns) lists.lapsed i 0 (omega (arith, held, lapsed_length ss ns))
