-- The label of a register that is cut to so many lines of longer lists (02, m, 3 and 4).
use Rattle.numbers.proofs.Words.{ℕ, ◌≤◌, ◌<◌, arith, ◌≡◌, refl, sym, ap, ◌∙◌, true, false, List, take, length, length-take-le, get_or-take, eq-eqb, le-leb, le-ltb, entry}
use Rattle.numbers.proofs.Tests.{together}
use Rattle.numbers.proofs.Orders.{counted-every}
use Rattle.rules.specs.declared.book.{Book.Book}
use Rattle.rules.specs.Book.{good}
use Rattle.rules.specs.Expiry.Call.{Lists, line_of}
use Rattle.rules.specs.File.{Lent}
use Rattle.rules.specs.Listing.{row_of, line_row, section_row, listing_bytes}
use Rattle.rules.specs.Label.{row_fit, rows_of, register_even, sections_short, label_answer, cut_to}
use Rattle.listing.specs.Limits.{Limits}
use Rattle.listing.proofs.Laws.Rows.{texts_same}
use Rattle.call_label.proofs.Laws.Label.{Long, row_test, label_accepted}
use Rattle.call_label.specs.Lengths.{rows_fit}

-- register lists with room for so many lines
pub record Room (n : ℕ) (ls : Lists) : Type 0 where
  pub buyers : n ≤ length ls.buyers
  pub elevators : n ≤ length ls.elevators
  pub sellers : n ≤ length ls.sellers
  pub lots : n ≤ length ls.lots

module _ (b : Book) (lent : Lent) (n : ℕ) (is : good b ≡ true) (room : Room n lent.lists) (enough : Long b.held lent)
    (limits : Limits b n lent) where
  abbrev cut : Lent
  cut = cut_to n lent

  rows_are : rows_of cut.lists ≡ n
  rows_are = length-take-le n lent.lists.buyers room.buyers

  same_long : (xs : List ℕ) → n ≤ length xs → length (take n xs) ≡ rows_of cut.lists
  same_long xs h = length-take-le n xs h ∙ sym rows_are

  -- below the cut the lines are what they were
  line_same : (i : ℕ) → i < n → line_of cut.lists i ≡ line_of lent.lists i
  line_same i h k =
      let same : (xs : List ℕ) → entry (take n xs) i ≡ entry xs i = λ (xs : List ℕ). get_or-take n xs i 0 h in
      record { buyer = same lent.lists.buyers k; elevator = same lent.lists.elevators k; seller = same lent.lists.sellers k; lots = same lent.lists.lots k }

  even : register_even cut.lists ≡ true
  even =
      together (eq-eqb _ _ (same_long _ room.elevators))
      (together (eq-eqb _ _ (same_long _ room.sellers))
      (together (eq-eqb _ _ (same_long _ room.lots)) (le-leb (rows_of cut.lists) 382 (omega (arith, rows_are, limits.few)))))

  long : sections_short b.held cut ≡ false
  unfolding sections_short
  long = simp (le-ltb _ _ enough.delivered, le-ltb _ _ enough.terminated, le-ltb _ _ enough.lapsed, le-ltb _ _ enough.sums)

  fit : rows_fit b.held cut.lists ≡ true
  fit =
      counted-every (λ (i : ℕ). row_fit b.held (line_of cut.lists i)) 0 (rows_of cut.lists)
      (λ i l h.
      let below : i < n = omega (arith, h, rows_are) in
      let line = limits.line i below in
      ap (row_fit b.held) (line_same i below) ∙ row_test b.held (line_of lent.lists i) (record { buyer = line.0; elevator = line.1; seller = line.2; some = line.4; most = line.3 }))

  -- and so is the listing
  listing_same : listing_bytes b n lent ≡ listing_bytes b (rows_of cut.lists) cut
  unfolding listing_bytes line_row section_row
  listing_same =
      rw (rows_are, texts_same (λ (i : ℕ). row_of b (line_of cut.lists i)) (λ (i : ℕ). row_of b (line_of lent.lists i)) n (λ i h. ap (row_of b) (line_same i h)))

  -- such a register is not refused (02, m, 3 and 4)
  pub label_cut : label_answer b cut ≡ record { number = 0; bytes = length (listing_bytes b n lent) }
  label_cut = sym (label_accepted b cut is (sym even) (sym long) refl (length (listing_bytes b n lent)) fit (ap length listing_same))
