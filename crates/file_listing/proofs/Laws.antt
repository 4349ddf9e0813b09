-- What an accepted read hands out is within the limits of a listing, and what a read prints.
use Rattle.numbers.proofs.Words.{ℕ, ◌≤◌, arith, ◌≡◌, sym, ap, ap₂, subst, subst₂, ◌∙◌, Bool, true, false, List, length, length-append, length-drop, length-replicate, drop, pos, eq-eqb, ne_eqb, nat_abs, replicate, listed, entry_ℤ, over}
use Rattle.rules.specs.Answers.{FileAnswer}
use Rattle.rules.specs.Book.{held_sections, filed_notices}
use Rattle.rules.specs.Calls.{handed_out, count}
use Rattle.rules.specs.Expiry.Passes.{buyers_of, elevators_of, sellers_of, lots_of}
use Rattle.rules.specs.Expiry.Call.{remaining, terminated, pairs, lines, kept, lapsed, delivered, expiry_written}
use Rattle.rules.specs.File.{Lent, Run, read_whole, file_answer, file_lists}
use Rattle.rules.specs.Listing.{listing_bytes, listing_of, printed_with, noughts, printed}
use Rattle.book_laws.proofs.Good.{Good, facts}
use Rattle.book_laws.proofs.Held.{held_good}
use Rattle.method_delivery.proofs.Taken.{few_kept}
use Rattle.method_delivery.proofs.Limits.{line_limits, section_limits}
use Rattle.file_event.proofs.Laws.Cases.{shaped}
use Rattle.read_laws.proofs.Read.{whole_shaped, whole_from, whole_read}
use Rattle.read_laws.proofs.Along.{sums_within}
use Rattle.read_laws.proofs.Calls.{whole_sound, sums_handed}
use Rattle.listing.specs.Columns.{refused_row}
use Rattle.listing.specs.Limits.{Limits}

-- an answer and lists that a listing can be made of
abbrev pub Listable : FileAnswer → Lent → Type 0
Listable a lent = Limits a.book a.kept lent

module _ (file : List ℕ) (lent : Lent) (e : (read_whole file lent).number ≡ 0) where
  abbrev run : Run
  run = read_whole file lent

  book_good : Good run.book
  book_good = facts run.book (whole_sound file lent e).book

  -- the place is the number of events (01, Reading, 2)
  few_events : run.place ≤ 3_800
  few_events = omega (arith, ap (λ (r : Run). r.place) (whole_from file lent e), (whole_read file lent e).place, (shaped file (whole_shaped file lent e)).few)

  -- an accepted read is within the limits of a listing (01, Program, 1)
  pub accepted_limits : Listable (file_answer run) (file_lists run lent)
  unfolding file_answer file_lists
  accepted_limits =
      let b = run.book in
      let new : Lent = record { lists = expiry_written b lent.lists; sums = over (listed b.held (entry_ℤ run.sums)) lent.sums } in
      let handed : ℕ → Lent = λ (n : ℕ). handed_out n new lent in
      subst
      (λ (n : ℕ). Listable (record { number = n; place = run.place; pairs = count n (pairs (held_sections b) (filed_notices b)); lines = count n (lines (held_sections b) (filed_notices b)); kept = count n (kept (held_sections b) (filed_notices b)); book = b }) (handed n))
      (sym e)
      (record {
        few = few_kept book_good;
        held = book_good.held;
        lot = book_good.lot.most;
        codes = λ i h. (held_good b book_good i h).code_length;
        line = line_limits b book_good lent.lists;
        section = λ i h.
            let lots = section_limits b book_good lent.lists i h in
            (omega (arith, lots.0), omega (arith, lots.1), omega (arith, lots.2), omega (arith, few_events, sums_within run (whole_sound file lent e) i, ap nat_abs (ap (λ (n : ℕ). entry_ℤ (handed n).sums i) (sym e) ∙ sums_handed file lent e i h)));
      })

-- lists with the places that the program lends
abbrev pub Places : Lent → Type 0
Places l =
    (382 ≤ length l.lists.buyers) × (382 ≤ length l.lists.elevators) × (382 ≤ length l.lists.sellers) × (382 ≤ length l.lists.lots)
    × (128 ≤ length l.lists.delivered) × (128 ≤ length l.lists.terminated) × (128 ≤ length l.lists.lapsed) × (128 ≤ length l.sums)

over_places : {A : Type 0} (xs : List A) (n : ℕ) (x : A) → n ≤ length (over xs (replicate n x))
over_places xs n x = omega (arith, length-append xs (drop (length xs) (replicate n x)), length-drop (length xs) (replicate n x), length-replicate n x)

-- an accepted read hands out lists with as many
places : (run : Run) → run.number ≡ 0 → Places (file_lists run noughts)
unfolding file_lists expiry_written noughts
places run e =
    let ss = held_sections run.book in
    let ns = filed_notices run.book in
    let sums = listed run.book.held (entry_ℤ run.sums) in
    let new : Lent = record { lists = expiry_written run.book noughts.lists; sums = over sums noughts.sums } in
    subst (λ (n : ℕ). Places (handed_out n new noughts)) (sym e) (
      over_places {A = ℕ} (buyers_of (kept ss ns)) 382 0,
      over_places {A = ℕ} (elevators_of (kept ss ns)) 382 0,
      over_places {A = ℕ} (sellers_of (kept ss ns)) 382 0,
      over_places {A = ℕ} (lots_of (kept ss ns)) 382 0,
      over_places {A = ℕ} (delivered ss ns) 128 0,
      over_places {A = ℕ} (terminated ss (remaining ss ns)) 128 0,
      over_places {A = ℕ} (lapsed ss ns) 128 0,
      over_places sums 128 (pos 0),
    )

-- what a read prints, by its number (01, Program, 1 and 2)
module _ (file : List ℕ) (lent : Lent) where
  abbrev row : Run → List ℕ
  row run = refused_row run.number run.place

  abbrev by_number : Run → Bool → List ℕ
  by_number run t = elim t [ true ↦ listing_of (file_answer run) (file_lists run lent) | false ↦ row run ]

  prints_listing : (read_whole file lent).number ≡ 0 → printed_with file lent ≡ listing_of (file_answer (read_whole file lent)) (file_lists (read_whole file lent) lent)
  unfolding printed_with
  prints_listing e = ap (by_number (read_whole file lent)) (eq-eqb _ 0 e)

  prints_row : ((read_whole file lent).number ≡ 0 → ⊥) → printed_with file lent ≡ row (read_whole file lent)
  unfolding printed_with
  prints_row ne = ap (by_number (read_whole file lent)) (ne_eqb _ 0 ne)

-- what is said of a text's bytes in the buffer is said of the same text
pub said : {text row bytes : List ℕ} {n : ℕ} → text ≡ row → (n ≡ length row) × (bytes ≡ over row (replicate 22_465 0)) → (n ≡ length text) × (bytes ≡ over text (replicate 22_465 0))
said {bytes = bytes} {n = n} e = subst (λ (l : List ℕ). (n ≡ length l) × (bytes ≡ over l (replicate 22_465 0))) (sym e)

-- The program's read, which lends lists of noughts (01, Program, 1)
module _ (file : List ℕ) {a : FileAnswer} (answer : a ≡ file_answer (read_whole file noughts)) where
  number_is : a.number ≡ (read_whole file noughts).number
  unfolding file_answer
  number_is = ap (λ (x : FileAnswer). x.number) answer

  -- a refused file prints its number and its place
  pub prints_refusal : (a.number ≡ 0 → ⊥) → printed file ≡ refused_row a.number a.place
  unfolding printed file_answer
  prints_refusal ne =
      prints_row file noughts (λ z. ne (number_is ∙ z)) ∙ ap (λ (x : FileAnswer). refused_row x.number x.place) (sym answer)

  -- an accepted one the listing of what the read hands out, which is within its limits
  module _ {after : Lent} (lists : after ≡ file_lists (read_whole file noughts) noughts) (z : a.number ≡ 0) where
    pub listable : Listable a after
    listable = subst₂ Listable (sym answer) (sym lists) (accepted_limits file noughts (sym number_is ∙ z))

    -- and whose lists have room for it
    pub roomy : Places after
    roomy = subst Places (sym lists) (places (read_whole file noughts) (sym number_is ∙ z))

    pub prints_accepted : printed file ≡ listing_bytes a.book a.kept after
    unfolding printed
    prints_accepted = prints_listing file noughts (sym number_is ∙ z) ∙ ap₂ listing_of (sym answer) (sym lists)
