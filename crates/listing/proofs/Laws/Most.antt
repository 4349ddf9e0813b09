-- The most bytes of a listing (01, Program, 1; 02, a, 4; 02, m, 3): a buffer of so many cuts nothing.
use Rattle.numbers.proofs.Words.{ℕ, zero, suc, ◌+◌, ◌*◌, ◌-◌, ◌/◌, ◌%◌, ◌^◌, ◌≤◌, ◌<◌, pow-suc, mul-le-mul, arith, ◌≡◌, refl, Bool, true, false, List, [], ◌∷◌, ⊎_elim, length, length-append, ℤ, pos, nat_abs, lt_z, entry, entry_ℤ}
use Rattle.numbers.specs.Text.{bytes, digits_from, decimal, signed_decimal}
use Rattle.numbers.proofs.Tests.{below_or_not}
use Rattle.rules.specs.declared.book.{Book.Book}
use Rattle.rules.specs.Book.{section_at}
use Rattle.rules.specs.Units.{tonnes_of}
use Rattle.rules.specs.Expiry.Call.{Lists}
use Rattle.rules.specs.File.{Lent}
use Rattle.rules.specs.Listing.{row, line_row, section_row, listing_bytes}
use Rattle.listing.specs.Columns.{head_row, refused_row}
use Rattle.listing.specs.Limits.{Limits}
use Rattle.listing.proofs.Laws.Digits.{digits_more, digits_last, some_place, below_zero, above_zero}
use Rattle.listing.proofs.Laws.Rows.{texts_most}

-- a number below 10^(k + 1) has at most k + 1 digits
digits_most : (turns k n : ℕ) (after : List ℕ) → n < 10 ^ suc k → length (digits_from turns n after) ≤ suc k + length after
unfolding digits_from
digits_most zero k n after h = omega arith
digits_most (suc turns) k n after h =
    ⊎_elim (λ (l : n < 10). rw (digits_last turns n after l) (omega arith))
    (λ (l : 10 ≤ n).
    let back : suc (k - 1) ≡ k = omega (arith, some_place k n h l) in
    let fewer : n / 10 < 10 ^ suc (k - 1) = rw back (omega (arith, h, pow-suc 10 k)) in
    rw (digits_more turns n after l) (omega (arith, back, digits_most turns (k - 1) (n / 10) ((48 + n % 10) ∷ after) fewer)))
    (below_or_not n 10)

pub decimal_most : (k n : ℕ) → n < 10 ^ suc k → length (decimal n) ≤ suc k
unfolding decimal
decimal_most k n h = omega (arith, digits_most 20 k n [] h)

-- whatever it is, at most 20
digits_few : (turns n : ℕ) (after : List ℕ) → length (digits_from turns n after) ≤ turns + length after
unfolding digits_from
digits_few zero n after = omega arith
digits_few (suc turns) n after =
    ⊎_elim (λ (l : n < 10). rw (digits_last turns n after l) (omega arith))
    (λ (l : 10 ≤ n). rw (digits_more turns n after l) (omega (arith, digits_few turns (n / 10) ((48 + n % 10) ∷ after))))
    (below_or_not n 10)

pub decimal_few : (n : ℕ) → length (decimal n) ≤ 20
unfolding decimal
decimal_few n = omega (arith, digits_few 20 n [])

-- and a whole number one more for its sign
pub signed_most : (k : ℕ) (z : ℤ) → nat_abs z < 10 ^ suc k → length (signed_decimal z) ≤ suc (suc k)
signed_most k z h = by_sign (lt_z z (pos 0)) refl
  where
    by_sign : (t : Bool) → lt_z z (pos 0) ≡ t → length (signed_decimal z) ≤ suc (suc k)
    by_sign true e = rw (below_zero z e) (omega (arith, decimal_most k (nat_abs z) h))
    by_sign false e = rw (above_zero z e) (omega (arith, decimal_most k (nat_abs z) h))

-- the rows
pub head_most : (kept : ℕ) → kept ≤ 382 → length (head_row kept) ≤ 13
unfolding row bytes
head_most kept h = simp length-append (omega (arith, decimal_most 2 kept (omega (arith, h))))

pub refused_most : (number place : ℕ) → number < 256 → place < 10 ^ 20 → length (refused_row number place) ≤ 33
unfolding row bytes
refused_most number place h k = simp length-append (omega (arith, decimal_most 2 number (omega (arith, h)), decimal_most 19 place k))

module _ {b : Book} {kept : ℕ} {lent : Lent} (l : Limits b kept lent) where
  abbrev lists : Lists
  lists = lent.lists

  -- what the writer asks of its lines
  pub lines_asked : (i : ℕ) → i < kept → (entry lists.buyers i < 128) × (entry lists.sellers i < 128) × (entry lists.lots i ≤ 1_000_000)
  lines_asked i h = let e = l.line i h in (omega (arith, e.0, l.held), omega (arith, e.2, l.held), e.3)

  pub line_most : (i : ℕ) → i < kept → length (line_row b lists i) ≤ 38
  unfolding line_row row tonnes_of
  line_most i h =
      let e = l.line i h in
      let tonnes : entry lists.lots i * b.lot.0 ≤ 1_000_000_000 = mul-le-mul {n₂ = 1_000_000} {m₂ = 1_000} e.3 l.lot in
      simp length-append
      (omega (
        arith,
        l.codes _ e.0,
        l.codes _ e.2,
        decimal_most 1 (entry lists.elevators i) (omega (arith, e.1)),
        decimal_most 6 (entry lists.lots i) (omega (arith, e.3)),
        decimal_most 9 (entry lists.lots i * b.lot.0) (omega (arith, tonnes)),
      ))

  -- a section's code and its lots, without the bytes that end them
  pub lots_most : (i : ℕ) → i < b.held → length (section_at b i).code + length (decimal (entry lists.delivered i)) + length (decimal (entry lists.terminated i)) + length (decimal (entry lists.lapsed i)) ≤ 37
  lots_most i h =
      let e = l.section i h in
      omega (
        arith,
        l.codes i h,
        decimal_most 9 (entry lists.delivered i) (omega (arith, e.0)),
        decimal_most 9 (entry lists.terminated i) (omega (arith, e.1)),
        decimal_most 9 (entry lists.lapsed i) (omega (arith, e.2)),
      )

  section_most : (i : ℕ) → i < b.held → length (section_row b lent i) ≤ 62
  unfolding section_row row
  section_most i h = simp length-append (omega (arith, lots_most i h, signed_most 18 (entry_ℤ lent.sums i) (l.section i h).3))

  pub listing_most_lem : length (listing_bytes b kept lent) ≤ 22_465
  unfolding listing_bytes
  listing_most_lem =
      simp length-append
      (omega (arith, head_most kept l.few, texts_most (line_row b lists) 38 kept line_most, texts_most (section_row b lent) 62 b.held section_most, l.few, l.held))
