-- What a file prints does not depend on what stood in the lists that the read was lent, nor on how long they are, once they are long enough
-- for any file (01, Program, 1; 01, Reading, 3).
use Rattle.numbers.proofs.Words.{ℕ, zero, suc, ◌+◌, ◌≤◌, ◌<◌, zero-le, le_trans, arith, ◌≡◌, refl, sym, ap, ap₂, ◌∙◌, Bool, true, false, not, cond, and-false, ◌||◌, List, [], ◌∷◌, ◌++◌, eqb, length, length-replicate, length-take-le, le-ltb, eqb-true, ℤ, pos, some, listed, entry_ℤ, over}
use Rattle.numbers.proofs.Lists.{over_at}
use Rattle.numbers.proofs.Passing.{flat_map_same}
use Rattle.numbers.specs.Text.{bytes, decimal}
use Rattle.numbers.proofs.Ranges.{listed-length}
use Rattle.std.specs.Prelude.{Ok, Err}
use Rattle.rules.specs.Answers.{Answer, Found}
use Rattle.rules.specs.declared.book.{Book.Book}
use Rattle.rules.specs.declared.events.Event.{Event}
use Rattle.rules.specs.declared.events.Event.TheVariants.{Section as SectionEvent, Trade, Session, Condition, Notice as NoticeEvent, Expiry}
use Rattle.rules.specs.Book.{good, opened, section_places, held_sections, filed_notices}
use Rattle.rules.specs.Calls.{◌if◌, first, answer, judged, handed_out, count, opening_number}
use Rattle.rules.specs.Expiry.Passes.{Line}
use Rattle.rules.specs.Expiry.Call.{register_places, day_last, kept, expiry_refusals, after_expiry, expiry_written, expiry_answer}
use Rattle.rules.specs.History.{Single, Session as Held, answer_of, session_of}
use Rattle.rules.specs.File.{word_at, events_in, misshapen, found_at, Lent, Run, stopped, call_of, own_number, summed, after_event, read_from, read_whole, file_answer, file_lists}
use Rattle.rules.specs.Listing.{row, section_row, listing_bytes, listing_of, printed_with, noughts, printed}
use Rattle.book_laws.proofs.ExpiryLists.{register_rows, delivered_written, terminated_written, lapsed_written}
use Rattle.book_laws.proofs.Good.{facts}
use Rattle.book_laws.proofs.Kept.{call_answered}
use Rattle.book_laws.proofs.Kept.Opening.{opening_kept}

-- lists that are long enough for any file
pub record Roomy (lent : Lent) : Type 0 where
  pub buyers : register_places ≤ length lent.lists.buyers
  pub elevators : register_places ≤ length lent.lists.elevators
  pub sellers : register_places ≤ length lent.lists.sellers
  pub lots : register_places ≤ length lent.lists.lots
  pub delivered : section_places ≤ length lent.lists.delivered
  pub terminated : section_places ≤ length lent.lists.terminated
  pub lapsed : section_places ≤ length lent.lists.lapsed
  pub sums : section_places ≤ length lent.sums

-- an expiry's number is then that of its book: neither 23 nor 24 is said
unfoldable expiry_number : Book → ℕ
expiry_number b = first (judged b (22 if (not (day_last b.last) || not (eqb b.trades 0)) ∷ []))

not_good : (b : Book) → good b ≡ false → expiry_number b ≡ 1
unfolding expiry_number first
not_good b e = simp e

module _ (lent : Lent) (room : Roomy lent) (b : Book) where
  number_booked : first (expiry_refusals b lent.lists) ≡ expiry_number b
  unfolding expiry_refusals expiry_number first some
  number_booked = go (good b) refl
    where
      go : (t : Bool) → good b ≡ t → first (expiry_refusals b lent.lists) ≡ expiry_number b
      go false e = simp e
      go true e =
          let held = (facts b e).held in
          simp (
            e,
            le-ltb _ _ room.buyers,
            le-ltb _ _ room.elevators,
            le-ltb _ _ room.sellers,
            le-ltb _ _ room.lots,
            le-ltb _ _ (le_trans held room.delivered),
            le-ltb _ _ (le_trans held room.terminated),
            le-ltb _ _ (le_trans held room.lapsed),
          )

  own_booked : own_number lent b Expiry ≡ expiry_number b
  unfolding own_number call_of answer_of expiry_answer
  own_booked = go (good b) refl
    where
      go : (t : Bool) → good b ≡ t → own_number lent b Expiry ≡ expiry_number b
      go false e = rw number_booked (simp (not_good b e))
      go true e = simp (le-ltb (length lent.sums) b.held (le_trans (facts b e).held room.sums), and-false, number_booked)

-- one turn of the read, by what is found
abbrev accepted : Bool → Run → Run → Run
accepted t next refused = elim t [ true ↦ next | false ↦ refused ]

abbrev turn : List ℕ → Lent → ℕ → Run → Found → Run
turn file lent left run found =
    elim found [
      | Err number ↦ stopped number run.place
      | Ok event ↦
          let own = own_number lent run.book event in
          accepted (eqb own 0) (read_from file lent left (after_event run (call_of lent run.book event))) (stopped own run.place)
    ]

-- its start
abbrev opening_of : List ℕ → ℕ
opening_of file = cond (misshapen file) 25 (opening_number (word_at file 4) (word_at file 8) (word_at file 12))

abbrev start_of : List ℕ → Run
start_of file = record { number = 0; place = 0; book = opened (word_at file 4) (word_at file 8) (word_at file 12); sums = [] }

opening_said : (bad : Bool) (number : ℕ) → ◌≡◌ {A = ℕ} (cond bad 25 number) 0 → number ≡ 0
opening_said true number e = absurd (omega (arith, e))
opening_said false number e = e

after_good : (run : Run) (call : Single) → good run.book ≡ true → good (after_event run call).book ≡ true
unfolding after_event
after_good run call e = call_answered run.book call e

-- two loans that are long enough
module _ (l m : Lent) (large : Roomy l) (enough : Roomy m) where
  -- an event is answered alike
  answer_same : (b : Book) (event : Event) → answer_of b (call_of l b event) ≡ answer_of b (call_of m b event)
  unfolding answer_of call_of expiry_answer
  answer_same b (SectionEvent settlement seller code participant) = refl
  answer_same b (Trade buyer seller price lots) = refl
  answer_same b (Session price) = refl
  answer_same b (Condition i met) = refl
  answer_same b (NoticeEvent i elevator lots) = refl
  answer_same b Expiry = ap (λ (n : ℕ). answer n (after_expiry b) b) (number_booked l large b ∙ sym (number_booked m enough b))

  own_same : (b : Book) (event : Event) → own_number l b event ≡ own_number m b event
  unfolding own_number call_of
  own_same b (SectionEvent settlement seller code participant) = refl
  own_same b (Trade buyer seller price lots) = refl
  own_same b (Session price) = refl
  own_same b (Condition i met) = refl
  own_same b (NoticeEvent i elevator lots) = refl
  own_same b Expiry = own_booked l large b ∙ sym (own_booked m enough b)

  -- no event but a session brings margins, and a session of a read is lent a list of its own
  margins_same : (b : Book) (event : Event) → session_of b (call_of l b event) ≡ session_of b (call_of m b event)
  unfolding session_of call_of
  margins_same b (SectionEvent settlement seller code participant) = refl
  margins_same b (Trade buyer seller price lots) = refl
  margins_same b (Session price) = refl
  margins_same b (Condition i met) = refl
  margins_same b (NoticeEvent i elevator lots) = refl
  margins_same b Expiry = refl

  after_same : (run : Run) (event : Event) → after_event run (call_of l run.book event) ≡ after_event run (call_of m run.book event)
  unfolding after_event
  after_same run event =
      ap₂ (λ (a : Answer) (ss : List Held). record { number = 0; place = run.place + 1; book = a.book; sums = summed run.sums ss })
      (answer_same run.book event) (margins_same run.book event)

  -- the read goes the same way
  read_same : (file : List ℕ) (left : ℕ) (run : Run) → read_from file l left run ≡ read_from file m left run
  unfolding read_from
  read_same file zero run = refl
  read_same file (suc left) run = go (read_same file left) (found_at file run.place)
    where
      go : ((next : Run) → read_from file l left next ≡ read_from file m left next) → (found : Found) → turn file l left run found ≡ turn file m left run found
      go later (Err number) = refl
      go later (Ok event) =
          let next = after_event run (call_of l run.book event) in
          ap (λ (n : ℕ). accepted (eqb n 0) (read_from file l left next) (stopped n run.place)) (own_same run.book event)
          ∙ ap (λ (r : Run). accepted (eqb (own_number m run.book event) 0) r (stopped (own_number m run.book event) run.place))
          (later next ∙ ap (read_from file m left) (after_same run event))

  whole_same : (file : List ℕ) → read_whole file l ≡ read_whole file m
  unfolding read_whole
  whole_same file =
      let opening = opening_of file in
      ap (λ (r : Run). accepted (eqb opening 0) r (stopped opening 0)) (read_same file (events_in file) (start_of file))

-- the book of a read, however it ends, has a place for each section held
abbrev Fits : Run → Type 0
Fits run = run.book.held ≤ length run.book.sections

stopped_fits : (number place : ℕ) → Fits (stopped number place)
stopped_fits number place = zero-le

good_fits : (run : Run) → good run.book ≡ true → Fits run
good_fits run e = let book = facts run.book e in omega (arith, book.held, book.section_places_lem)

accepted_fits : (t : Bool) (next refused : Run) → (t ≡ true → Fits next) → Fits refused → Fits (accepted t next refused)
accepted_fits true next refused h k = h refl
accepted_fits false next refused h k = k

module _ (file : List ℕ) (lent : Lent) where
  read_fits : (left : ℕ) (run : Run) → good run.book ≡ true → Fits (read_from file lent left run)
  unfolding read_from
  read_fits zero run e = accepted_fits run.book.expired run (stopped 27 run.place) (λ z. good_fits run e) (stopped_fits 27 run.place)
  read_fits (suc left) run e = go (read_fits left) (found_at file run.place)
    where
      go : ((next : Run) → good next.book ≡ true → Fits (read_from file lent left next)) → (found : Found) → Fits (turn file lent left run found)
      go later (Err number) = stopped_fits number run.place
      go later (Ok event) =
          let call = call_of lent run.book event in
          let own = own_number lent run.book event in
          accepted_fits (eqb own 0) (read_from file lent left (after_event run call)) (stopped own run.place)
          (λ z. later (after_event run call) (after_good run call e)) (stopped_fits own run.place)

  whole_fits : Fits (read_whole file lent)
  unfolding read_whole
  whole_fits =
      let opening = opening_of file in
      accepted_fits (eqb opening 0) (read_from file lent (events_in file) (start_of file)) (stopped opening 0)
      (λ e. read_fits (events_in file) (start_of file) (opening_kept _ _ _ (opening_said (misshapen file) _ (eqb-true opening 0 e))))
      (stopped_fits opening 0)

-- the rows of an accepted read are those of its book
module _ (run : Run) (fits : Fits run) (none : run.number ≡ 0) where
  abbrev b : Book
  b = run.book

  abbrev register : List Line
  register = kept (held_sections b) (filed_notices b)

  abbrev sums : List ℤ
  sums = listed b.held (entry_ℤ run.sums)

  abbrev written : Lent → Lent
  written l = record { lists = expiry_written b l.lists; sums = over sums l.sums }

  module _ (l m : Lent) where
    section_same : (i : ℕ) → i < b.held → section_row b (written l) i ≡ section_row b (written m) i
    unfolding section_row
    section_same i h =
        let held : i < length (held_sections b) = omega (arith, h, length-take-le b.held b.sections fits) in
        let place : i < length sums = omega (arith, h, listed-length b.held (entry_ℤ run.sums)) in
        rw (
          delivered_written b l.lists i held,
          delivered_written b m.lists i held,
          terminated_written b l.lists i held,
          terminated_written b m.lists i held,
          lapsed_written b l.lists i held,
          lapsed_written b m.lists i held,
          over_at sums l.sums i (pos 0) place,
          over_at sums m.sums i (pos 0) place,
        )

    listing_same : listing_of (file_answer run) (file_lists run l) ≡ listing_of (file_answer run) (file_lists run m)
    unfolding listing_bytes file_answer file_lists
    listing_same =
        let lists : (x : Lent) → file_lists run x ≡ written x = λ x. ap (λ (n : ℕ). handed_out n (written x) x) none in
        let counted_lines : (file_answer run).kept ≡ length register = ap (λ (n : ℕ). count n register) none in
        rw (lists l, lists m, counted_lines)
        (ap₂ (λ (rows sections : List ℕ). row (bytes "register" ∷ decimal (length register) ∷ []) ++ rows ++ sections)
        (register_rows b l.lists ∙ sym (register_rows b m.lists))
        (flat_map_same _ _ 0 b.held (λ i h. section_same i (omega (arith, h)))))

noughts_roomy : Roomy noughts
unfolding noughts
noughts_roomy =
    let register = length-replicate {A = ℕ} register_places 0 in
    let sections = length-replicate {A = ℕ} section_places 0 in
    record {
      buyers = omega (arith, register);
      elevators = omega (arith, register);
      sellers = omega (arith, register);
      lots = omega (arith, register);
      delivered = omega (arith, sections);
      terminated = omega (arith, sections);
      lapsed = omega (arith, sections);
      sums = omega (arith, length-replicate section_places (pos 0));
    }

-- what a run prints, by whether it was accepted
abbrev shown : Bool → Run → Lent → List ℕ
shown t run lent =
    elim t [
      | true ↦ listing_of (file_answer run) (file_lists run lent)
      | false ↦ row (bytes "refused" ∷ decimal run.number ∷ decimal run.place ∷ [])
    ]

shown_same : (t : Bool) (run : Run) (l m : Lent) → eqb run.number 0 ≡ t → Fits run → shown t run l ≡ shown t run m
shown_same true run l m e fits = listing_same run fits (eqb-true run.number 0 e) l m
shown_same false run l m e fits = refl

-- A file prints the same into any lists that are long enough (01, Program, 1; 01, Reading, 3).
pub lists_unseen : (file : List ℕ) (lent : Lent) → Roomy lent → printed_with file lent ≡ printed file
unfolding printed_with printed
lists_unseen file lent room =
    let run = read_whole file lent in
    shown_same (eqb run.number 0) run lent noughts refl (whole_fits file lent)
    ∙ ap (λ (r : Run). shown (eqb r.number 0) r noughts) (whole_same lent noughts room noughts_roomy file)
