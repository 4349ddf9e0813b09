-- The number and the answer of a label, and what one that is not refused says of its lists (02, m, 2 and 3 and 4).
use Rattle.numbers.proofs.Words.{ℕ, ◌≤◌, ◌<◌, zero-add, arith, ◌≡◌, refl, sym, ap, ap₂, ◌∙◌, Bool, true, false, not, cond, ◌&&◌, and-false, ◌||◌, or-true, leb, ltb, eqb, length, not-false, ne_eqb, eqb-true, le-leb, leb-true, lt-ltb, ltb-true, ltb-false, every, counted}
use Rattle.numbers.specs.Lists.{shorter}
use Rattle.numbers.proofs.Tests.{both, together, or_left, or_right}
use Rattle.numbers.proofs.Lists.{every_at}
use Rattle.numbers.proofs.Ranges.{counted-length, counted_at}
use Rattle.rules.specs.declared.book.{Book.Book}
use Rattle.rules.specs.Book.{good}
use Rattle.rules.specs.Calls.{handed_out}
use Rattle.rules.specs.Expiry.Passes.{Line}
use Rattle.rules.specs.Expiry.Call.{Lists, line_of}
use Rattle.rules.specs.File.{Lent}
use Rattle.rules.specs.Listing.{listing_bytes}
use Rattle.rules.specs.Label.{row_fit, rows_of, register_even, register_fit, sections_short, label_number, label_answer, Widths, listing_most}
use Rattle.book_laws.proofs.Answers.{says, says_none, bad_book, first_none}
use Rattle.book_laws.proofs.Good.{Good, facts, between_facts, between_test}
use Rattle.book_laws.proofs.Held.{held_good}
use Rattle.listing.specs.Limits.{Limits}
use Rattle.listing.proofs.Laws.Most.{listing_most_lem}
use Rattle.call_label.specs.Lengths.{rows_fit}

-- lists of one length and not too many rows, and section lists that are long enough, as facts
pub record Even (ls : Lists) : Type 0 where
  pub elevators : length ls.elevators ≡ rows_of ls
  pub sellers : length ls.sellers ≡ rows_of ls
  pub lots : length ls.lots ≡ rows_of ls
  pub few : rows_of ls ≤ 382

even_facts : (ls : Lists) → register_even ls ≡ true → Even ls
even_facts ls e =
    let elevators = both (eqb (length ls.elevators) (rows_of ls)) _ e in
    let sellers = both (eqb (length ls.sellers) (rows_of ls)) _ elevators.1 in
    let lots = both (eqb (length ls.lots) (rows_of ls)) (leb (rows_of ls) 382) sellers.1 in
    record { elevators = eqb-true _ _ elevators.0; sellers = eqb-true _ _ sellers.0; lots = eqb-true _ _ lots.0; few = leb-true _ _ lots.1 }

pub record Long (held : ℕ) (lent : Lent) : Type 0 where
  pub delivered : held ≤ length lent.lists.delivered
  pub terminated : held ≤ length lent.lists.terminated
  pub lapsed : held ≤ length lent.lists.lapsed
  pub sums : held ≤ length lent.sums

long_facts : (held : ℕ) (lent : Lent) → sections_short held lent ≡ false → Long held lent
unfolding sections_short
long_facts held lent e =
    let three = or_left (shorter held lent.lists.delivered || shorter held lent.lists.terminated || shorter held lent.lists.lapsed) (shorter held lent.sums) e in
    let two = or_left (shorter held lent.lists.delivered || shorter held lent.lists.terminated) (shorter held lent.lists.lapsed) three in
    record {
      delivered = ltb-false _ _ (or_left (shorter held lent.lists.delivered) (shorter held lent.lists.terminated) two);
      terminated = ltb-false _ _ (or_right (shorter held lent.lists.delivered) (shorter held lent.lists.terminated) two);
      lapsed = ltb-false _ _ (or_right (shorter held lent.lists.delivered || shorter held lent.lists.terminated) (shorter held lent.lists.lapsed) three);
      sums = ltb-false _ _ (or_right (shorter held lent.lists.delivered || shorter held lent.lists.terminated || shorter held lent.lists.lapsed) (shorter held lent.sums) e);
    }

module _ (b : Book) (lent : Lent) where
  abbrev rows : ℕ
  rows = rows_of lent.lists

  abbrev fit : Bool
  fit = rows_fit b.held lent.lists

  -- a refused label answers its number and no bytes (01, Book, 7)
  refused : (n : ℕ) → n ≡ label_number b lent → (n ≡ 0 → ⊥) → record { number = n; bytes = 0 } ≡ label_answer b lent
  unfolding label_answer
  refused n e ne = rw (sym e, ne_eqb n 0 ne, handed_out)

  pub label_bad_book : good b ≡ false → record { number = 1; bytes = 0 } ≡ label_answer b lent
  unfolding label_number
  label_bad_book e = refused 1 (bad_book b _ e) (λ z. omega (arith, z))

  -- 39, test after test, on a good book
  module _ (is : good b ≡ true) where
    number_is : label_number b lent ≡ cond (not (register_fit b.held lent.lists) || sections_short b.held lent) 39 0
    unfolding label_number
    number_is = simp (says, says_none, is)

    -- what the code finds of the lists' lengths
    module _ {even short : Bool} (even_is : even ≡ register_even lent.lists) (short_is : short ≡ sections_short b.held lent) where
      number_by : label_number b lent ≡ cond (not (even && fit) || short) 39 0
      unfolding register_fit
      number_by = number_is ∙ ap₂ (λ (e s : Bool). cond (not (e && fit) || s) 39 0) (sym even_is) (sym short_is)

      -- 39 by the lengths, or by a row
      pub label_unfit : (not even || short) ≡ true → record { number = 39; bytes = 0 } ≡ label_answer b lent
      label_unfit e = refused 39 (sym (number_by ∙ ap (λ (t : Bool). cond t 39 0) (unfit even short e))) (λ z. omega (arith, z))
        where
          unfit : (e s : Bool) → (not e || s) ≡ true → (not (e && fit) || s) ≡ true
          unfit true s h = simp (h, or-true)
          unfit false s h = refl

      pub label_rows_unfit : fit ≡ false → record { number = 39; bytes = 0 } ≡ label_answer b lent
      label_rows_unfit e = refused 39 (sym (number_by ∙ simp (e, and-false))) (λ z. omega (arith, z))

      module _ (e : (not even || short) ≡ false) where
        is_even : even ≡ true
        is_even = not-false even (or_left (not even) short e)

        is_long_lem : short ≡ false
        is_long_lem = or_right (not even) short e

        pub evenly : Even lent.lists
        evenly = even_facts lent.lists (sym even_is ∙ is_even)

        pub long_enough : Long b.held lent
        long_enough = long_facts b.held lent (sym short_is ∙ is_long_lem)

        -- and none of these: so many bytes
        pub label_accepted : (bytes : ℕ) → fit ≡ true → bytes ≡ length (listing_bytes b rows lent) → record { number = 0; bytes = bytes } ≡ label_answer b lent
        unfolding label_answer
        label_accepted bytes all_fit counts =
            let none : label_number b lent ≡ 0 = number_by ∙ simp (is_even, is_long_lem, all_fit) in
            rw (none, counts)

-- a row that is fit, as facts
pub record RowFit (held : ℕ) (l : Line) : Type 0 where
  pub buyer : l.buyer < held
  pub elevator : l.elevator ≤ 31
  pub seller : l.seller < held
  pub some : 1 ≤ l.lots
  pub most : l.lots ≤ 1_000_000

pub row_facts : (held : ℕ) (l : Line) → row_fit held l ≡ true → RowFit held l
unfolding row_fit
row_facts held l e =
    let buyer = both (ltb l.buyer held) _ e in
    let elevator = both (leb l.elevator 31) _ buyer.1 in
    let seller = both (ltb l.seller held) (leb 1 l.lots && leb l.lots 1_000_000) elevator.1 in
    let lots = between_facts 1 1_000_000 l.lots seller.1 in
    record { buyer = ltb-true _ _ buyer.0; elevator = leb-true _ _ elevator.0; seller = ltb-true _ _ seller.0; some = lots.least; most = lots.most }

pub row_test : (held : ℕ) (l : Line) → RowFit held l → row_fit held l ≡ true
unfolding row_fit
row_test held l r =
    together (lt-ltb _ _ r.buyer)
    (together (le-leb _ _ r.elevator) (together (lt-ltb _ _ r.seller) (between_test (record { least = r.some; most = r.most }))))

pub rows_facts : (held : ℕ) (line : ℕ → Line) (n : ℕ) → every (λ (i : ℕ). row_fit held (line i)) (counted 0 n) ≡ true → (i : ℕ) → i < n → RowFit held (line i)
rows_facts held line n e i h =
    row_facts held (line i) (ap (λ (j : ℕ). row_fit held (line j)) (sym (counted_at 0 n i 0 h ∙ zero-add i)) ∙ every_at (λ (j : ℕ). row_fit held (line j)) (counted 0 n) i 0 e (omega (arith, h, counted-length 0 n)))

-- a label that is not refused is within the limits of a listing (02, m, 3 and 4)
module _ (b : Book) (lent : Lent) (wide : Widths lent) where
  limits : label_number b lent ≡ 0
      → Limits b (rows b lent) lent
  unfolding label_number register_fit
  limits e =
      let one = first_none _ _ (omega arith) e in
      let book : Good b = facts b (not-false _ one.0) in
      let all = first_none _ _ (omega arith) one.1 in
      let fit = both (register_even lent.lists) _ (not-false _ (or_left (not (register_fit b.held lent.lists)) _ all.0)) in
      record {
        few = (even_facts lent.lists fit.0).few;
        held = book.held;
        lot = book.lot.most;
        codes = λ i h. (held_good b book i h).code_length;
        line = λ i h. let row = rows_facts b.held (line_of lent.lists) (rows b lent) fit.1 i h in (row.buyer, row.elevator, row.seller, row.most, row.some);
        section = λ i h. (wide.delivered i, wide.terminated i, wide.lapsed i, omega (arith, wide.sums i));
      }

  -- and so it counts no more than the most (02, m, 3)
  pub label_most : (label_answer b lent).bytes ≤ listing_most
  unfolding label_answer
  label_most = go (eqb (label_number b lent) 0) refl
    where
      go : (t : Bool) → eqb (label_number b lent) 0 ≡ t → cond t (length (listing_bytes b (rows b lent) lent)) 0 ≤ 22_465
      go true e = listing_most_lem (limits (eqb-true _ _ e))
      go false e = omega arith
