-- The passes of an expiry by their columns, and what they ask of them.
use Rattle.std.specs.Prelude.{ℕ, ◌≡◌, ◌≤◌, ◌<◌, cond, eqb, List, length, ℤ}
use Rattle.rules.specs.Words.{listed, entry, entry_ℤ, less}
use Rattle.rules.specs.declared.book.{Section.Section, Notice.Notice}
use Rattle.rules.specs.Book.{settlement_codes}
use Rattle.rules.specs.Expiry.{is_long, Outside.outside}
use Rattle.rules.specs.Expiry.Passes.{Pair, Line, Pass, sellers_in}
use Rattle.rules.specs.Expiry.Call.{remaining, lines}
use Rattle.method_laws.specs.Columns.{Columns, Filed, positions_of, notice_lots_in, by_key}
use Rattle.method_steps.specs.Held.{Held}
use Rattle.method_steps.specs.declared.columns.SectionColumns.{SectionColumns}
use Rattle.method_register.specs.declared.columns.NoticeColumns.{NoticeColumns}
use Rattle.method_passes.specs.Formed.{pass_pairs, pass_lines, Sold}

-- the lots of the long sections, those of a settlement code's sections, and what is drawn of the notices of these (01, Expiry, 6.1)
abbrev pub long_lots : List ℤ → List ℕ → List ℕ
long_lots positions lots = listed (length lots) (λ (i : ℕ). cond (is_long (entry_ℤ positions i)) (entry lots i) 0)

abbrev pub lots_in_code : List ℕ → List ℕ → ℕ → List ℕ
lots_in_code codes lots c = listed (length lots) (λ (i : ℕ). cond (eqb (entry codes i) c) (entry lots i) 0)

abbrev pub drawn_in_code : List ℕ → List ℕ → List ℕ → ℕ → List ℕ
drawn_in_code codes sellers drawn c = listed (length drawn) (λ (k : ℕ). cond (eqb (entry codes (entry sellers k)) c) (entry drawn k) 0)

-- the inside pass of a settlement code, of the inside lots of the long sections and of what is drawn inside; all of them (01, Expiry, 6.1)
abbrev pub in_code : List ℕ → List ℕ → List ℕ → List ℕ → ℕ → Pass
in_code codes sellers buyers drawn c = record { buyers = lots_in_code codes buyers c; drawn = drawn_in_code codes sellers drawn c }

abbrev pub in_codes : List ℕ → List ℕ → List ℕ → List ℕ → List Pass
in_codes codes sellers buyers drawn = listed settlement_codes (in_code codes sellers buyers drawn)

-- the pairs and the lines of a pass
abbrev pub pairs_by : List ℕ → List ℕ → Pass → List Pair
pairs_by keys stands p = pass_pairs (by_key keys) stands p.buyers p.drawn

abbrev pub lines_by : List ℕ → List ℕ → List ℕ → Pass → List Line
lines_by keys sellers stands p = pass_lines (by_key keys) sellers stands p.buyers p.drawn

-- what the inside passes read, within the limits of a good book
pub record Read (codes keys buyers sellers stands drawn : List ℕ) : Type 0 where
  pub few : length keys ≤ 128
  pub codes_long : length codes ≡ length keys
  pub buyers_long : length buyers ≡ length keys
  pub buyers_small : (i : ℕ) → entry buyers i ≤ 1_000_000
  pub sold : Sold sellers stands drawn (length keys)

-- sections and notices that have these columns deliver `kept`
pub record Delivers (ss : List Section) (ns : List Notice) (codes : List ℕ) (positions : List ℤ) (keys sellers stands lots kept : List ℕ) : Type 0 where
  pub columns : Columns ss codes positions keys
  pub filed : Filed ns sellers stands lots
  pub kept_is : kept ≡ remaining ss ns

-- the notices of so many sections that are drawn, within the limits of a good book
pub record Noticed (sellers lots : List ℕ) (sections : ℕ) : Type 0 where
  pub few : length sellers ≤ 256
  pub long : length lots ≡ length sellers
  pub seller : (k : ℕ) → k < length sellers → entry sellers k < sections
  pub small : (k : ℕ) → entry lots k ≤ 1_000_000

-- sections and notices that have what drawing reads
pub record Drawing (ss : List Section) (ns : List Notice) (positions : List ℤ) (sellers lots : List ℕ) : Type 0 where
  pub positions_are : positions ≡ positions_of ss
  pub sellers_are : sellers ≡ sellers_in ns
  pub lots_are : lots ≡ notice_lots_in ns

-- the columns of a book that expires: there are sections and notices that have them, and no more lines than a register has places
pub record Expiring (codes : List ℕ) (positions : List ℤ) (keys sellers stands lots kept : List ℕ) : Type 0 where
  pub held : Held codes positions keys (length kept)
  pub noticed : Noticed sellers lots (length kept)
  pub standing : (k : ℕ) → k < length stands → entry stands k < 32
  pub small : (i : ℕ) → entry kept i ≤ 1_000_000
  pub ss : List Section
  pub ns : List Notice
  pub delivers : Delivers ss ns codes positions keys sellers stands lots kept
  pub few : length (lines ss ns) ≤ 382

-- the lots kept, parted: what goes outside, and what stays inside (01, Expiry, 4.1; 01, Expiry, 4.2)
pub record Parted (codes : List ℕ) (positions : List ℤ) (keys kept near far : List ℕ) : Type 0 where
  pub far_is : (ss : List Section) → Columns ss codes positions keys → far ≡ outside ss kept
  pub near_is : near ≡ less kept far
  pub far_long : length far ≡ length kept

-- the same of columns that are lent together
abbrev pub ReadBy : SectionColumns → List ℕ → NoticeColumns → Type 0
ReadBy columns buyers drawn = Read columns.codes.now columns.keys.now buyers drawn.sellers.now drawn.stands.now drawn.lots.now

abbrev pub DeliversBy : List Section → List Notice → SectionColumns → NoticeColumns → List ℕ → Type 0
DeliversBy ss ns columns notices kept = Delivers ss ns columns.codes.now columns.positions.now columns.keys.now notices.sellers.now notices.stands.now notices.lots.now kept

abbrev pub ExpiringBy : SectionColumns → NoticeColumns → List ℕ → Type 0
ExpiringBy columns notices kept = Expiring columns.codes.now columns.positions.now columns.keys.now notices.sellers.now notices.stands.now notices.lots.now kept

abbrev pub PartedBy : SectionColumns → (kept near far : List ℕ) → Type 0
PartedBy columns kept near far = Parted columns.codes.now columns.positions.now columns.keys.now kept near far
