-- The lists that an expiry is lent, and the columns of the book that expires.
use Rattle.std.specs.Prelude.{ℕ, ◌≡◌, ◌≤◌, List, length, ℤ}
use Rattle.rules.specs.declared.book.{Book.Book}
use Rattle.rules.specs.Book.{held_sections, filed_notices}
use Rattle.rules.specs.Expiry.Call as Call
use Rattle.rules.specs.Words.{over}
use Rattle.rules.specs.Expiry.Passes.{Pair, Line, buyers_of, elevators_of, sellers_of, lots_of}
use Rattle.method_steps.specs.declared.columns.SectionColumns.{SectionColumns}
use Rattle.method_register.specs.declared.columns.NoticeColumns.{NoticeColumns}
use Rattle.method_laws.specs.Columns.{Filed, settlements_of, positions_of, keys_of}

-- the pairs and lines of a book's expiry, the lines kept, and what the method leaves each of its sections
abbrev pub pairs_for : Book → List Pair
pairs_for b = Call.pairs (held_sections b) (filed_notices b)

abbrev pub lines_for : Book → List Line
lines_for b = Call.lines (held_sections b) (filed_notices b)

abbrev pub kept_for : Book → List Line
kept_for b = Call.kept (held_sections b) (filed_notices b)

abbrev pub remaining_of : Book → List ℕ
remaining_of b = Call.remaining (held_sections b) (filed_notices b)

-- the columns of a book
pub record ColumnsOf (b : Book) (codes : List ℕ) (positions : List ℤ) (keys sellers stands lots : List ℕ) : Type 0 where
  pub codes_are : codes ≡ settlements_of (held_sections b)
  pub positions_are : positions ≡ positions_of (held_sections b)
  pub keys_are : keys ≡ keys_of (held_sections b)
  pub filed : Filed (filed_notices b) sellers stands lots

-- the same of columns that are lent together
abbrev pub ColumnsBy : Book → SectionColumns → NoticeColumns → Type 0
ColumnsBy b columns notices = ColumnsOf b columns.codes.now columns.positions.now columns.keys.now notices.sellers.now notices.stands.now notices.lots.now

-- lines from the start of the register's lists, and lots of sections from the start of theirs; all else as it was (01, Calls, 7; 01, Expiry call, 2)
abbrev pub lines_over : List Line → Call.Lists → Call.Lists
lines_over register ls =
    record {
      buyers = over (buyers_of register) ls.buyers;
      elevators = over (elevators_of register) ls.elevators;
      sellers = over (sellers_of register) ls.sellers;
      lots = over (lots_of register) ls.lots;
      delivered = ls.delivered;
      terminated = ls.terminated;
      lapsed = ls.lapsed;
    }

abbrev pub sections_over : (delivered terminated lapsed : List ℕ) → Call.Lists → Call.Lists
sections_over delivered terminated lapsed ls =
    record {
      buyers = ls.buyers;
      elevators = ls.elevators;
      sellers = ls.sellers;
      lots = ls.lots;
      delivered = over delivered ls.delivered;
      terminated = over terminated ls.terminated;
      lapsed = over lapsed ls.lapsed;
    }

-- the lists have room for any register and for the sections held (01, Expiry call, 1; 02, a, 4)
pub record Room (b : Book) (ls : Call.Lists) : Type 0 where
  pub buyers_room : 382 ≤ length ls.buyers
  pub elevators_room : 382 ≤ length ls.elevators
  pub sellers_room : 382 ≤ length ls.sellers
  pub lots_room : 382 ≤ length ls.lots
  pub delivered_room : b.held ≤ length ls.delivered
  pub terminated_room : b.held ≤ length ls.terminated
  pub lapsed_room : b.held ≤ length ls.lapsed
