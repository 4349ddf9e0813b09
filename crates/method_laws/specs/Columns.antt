-- What the method's code reads of the sections held and of the notices filed: columns, a list of numbers each. Contracts speak of every list of sections, or of
-- notices, that has these columns.
use Rattle.std.specs.Prelude.{ℕ, ◌<◌, ◌≡◌, Bool, List, map, length, ltb, ℤ, nat_abs, cond, eqb, ◌≤◌}
use Rattle.rules.specs.Words.{listed, entry, total, entry_ℤ}
use Rattle.numbers.specs.Bytes.{big_endian}
use Rattle.rules.specs.declared.book.{Section.Section, Notice.Notice}
use Rattle.rules.specs.Book.{position_of}
use Rattle.rules.specs.Expiry.{lower_section_code}
use Rattle.rules.specs.Expiry.Passes.{sellers_in, elevators_in}

-- of the sections: participants, settlement codes and positions
abbrev pub participants_of : List Section → List ℕ
participants_of = map (λ (s : Section). s.participant)

abbrev pub settlements_of : List Section → List ℕ
settlements_of = map (λ (s : Section). s.settlement)

abbrev pub positions_of : List Section → List ℤ
positions_of = map position_of

-- and the keys of the section codes, their bytes as one number: of two codes the lower has the lower key
abbrev pub keys_of : List Section → List ℕ
keys_of = map (λ (s : Section). big_endian s.code)

abbrev pub by_key : List ℕ → ℕ → ℕ → Bool
by_key keys i j = ltb (entry keys i) (entry keys j)

-- of the notices: sellers and elevators (`sellers_in`, `elevators_in`), and lots
abbrev pub notice_lots_in : List Notice → List ℕ
notice_lots_in = map (λ (n : Notice). nat_abs n.lots.0)

-- the lots of what names a section: `numbers` has the section of each of `lots` (01, Expiry, 1.1; 02, a, 4)
abbrev pub lots_at : List ℕ → List ℕ → ℕ → ℕ
lots_at numbers lots i = total (listed (length numbers) (λ (k : ℕ). cond (eqb (entry numbers k) i) (entry lots k) 0))

-- what contracts ask of a column: each number below another; lots within a position's limit; no more than another list has; nets within 128 positions
abbrev pub Below : ℕ → List ℕ → Type 0
Below n xs = (i : ℕ) → i < length xs → entry xs i < n

abbrev pub Small : List ℕ → Type 0
Small xs = (i : ℕ) → entry xs i ≤ 1_000_000

abbrev pub AtMost : List ℕ → List ℕ → Type 0
AtMost xs ys = (i : ℕ) → entry xs i ≤ entry ys i

abbrev pub NetsSmall : List ℤ → Type 0
NetsSmall zs = (c : ℕ) → nat_abs (entry_ℤ zs c) ≤ 128_000_000

-- the sections have these columns
pub record Columns (ss : List Section) (codes : List ℕ) (positions : List ℤ) (keys : List ℕ) : Type 0 where
  pub codes_are : codes ≡ settlements_of ss
  pub positions_are : positions ≡ positions_of ss
  pub keys_lower : (i j : ℕ) → i < length ss → j < length ss → lower_section_code ss i j ≡ by_key keys i j
  pub keys_apart : (i j : ℕ) → i < length ss → j < length ss → entry keys i ≡ entry keys j → i ≡ j

-- the notices have these columns
pub record Filed (ns : List Notice) (sellers stands lots : List ℕ) : Type 0 where
  pub sellers_are : sellers ≡ sellers_in ns
  pub stands_are : stands ≡ elevators_in ns
  pub lots_are : lots ≡ notice_lots_in ns
