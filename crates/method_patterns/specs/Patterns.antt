-- Patterns by number, and the columns of the book behind each.
use Rattle.std.specs.Prelude.{ℕ, ◌/◌, ◌%◌, ◌<◌, ◌≡◌, Bool, true, false, cond, List, [], ◌∷◌, map, eqb, length, set, ℤ}
use Rattle.rules.specs.Words.{entry}
use Rattle.rules.specs.declared.book.{Book.Book}
use Rattle.rules.specs.Book.{good, held_sections, filed_notices}
use Rattle.rules.specs.Calls.{after_condition}
use Rattle.rules.specs.Expiry.{size}
use Rattle.rules.specs.Expiry.Failing.{failing}
use Rattle.method_laws.specs.Columns.{participants_of}
use Rattle.method_columns.specs.Failing.{failing_with}
use Rattle.method_delivery.specs.Lent.{ColumnsOf}
use Rattle.method_steps.specs.declared.columns.SectionColumns.{SectionColumns}
use Rattle.method_register.specs.declared.columns.NoticeColumns.{NoticeColumns}
use Rattle.method_patterns.specs.declared.marks.Marked.{Marked}

-- the last digit of a number in base two says whether a section named is met
abbrev pub met_in : ℕ → Bool
met_in p = eqb (p % 2) 1

-- pattern p of a book: a digit of p for each section named (02, n, 1)
unfoldable pub book_under : Book → List ℕ → ℕ → Book
book_under b [] p = b
book_under b (i ∷ named) p = book_under (after_condition b i (met_in p)) named (p / 2)

-- what fails of each section, one more of them marked: all its lots where it is not met; and under a pattern (02, n, 1)
abbrev pub fails_marked : List ℕ → List ℕ → List ℕ → ℕ → Bool → List ℕ
fails_marked own still failed i met = set failed i (cond met (entry still i) (entry own i))

unfoldable pub fails_under : List ℕ → List ℕ → List ℕ → List ℕ → ℕ → List ℕ
fails_under own still failed [] p = failed
fails_under own still failed (i ∷ named) p = fails_under own still (fails_marked own still failed i (met_in p)) named (p / 2)

-- columns of a good book, with what fails of each of its sections
pub record Stands (b : Book) (persons codes : List ℕ) (positions : List ℤ) (keys selling stands stock failed : List ℕ) : Type 0 where
  pub good_book : good b ≡ true
  pub columns : ColumnsOf b codes positions keys selling stands stock
  pub persons_are : persons ≡ participants_of (held_sections b)
  pub failed_are : failed ≡ failing (held_sections b) (filed_notices b)

-- there is such a book
pub record Standing (persons codes : List ℕ) (positions : List ℤ) (keys selling stands stock failed : List ℕ) : Type 0 where
  pub book : Book
  pub is : Stands book persons codes positions keys selling stands stock failed

-- and besides: the book has not expired, what each section has and what of it fails also with its condition met, and only sections held are named
pub record Marks (b : Book) (failed own still named : List ℕ) : Type 0 where
  pub unexpired : b.expired ≡ false
  pub own_are : own ≡ map size (held_sections b)
  pub still_are : still ≡ failing_with true b
  pub known : (k : ℕ) → k < length named → entry named k < length failed

pub record Named (persons codes : List ℕ) (positions : List ℤ) (keys selling stands stock failed own still named : List ℕ) : Type 0 where
  pub book : Book
  pub is : Stands book persons codes positions keys selling stands stock failed
  pub marks : Marks book failed own still named

-- the same of columns and marks that are lent together
abbrev pub StandsBy : Book → List ℕ → SectionColumns → NoticeColumns → List ℕ → Type 0
StandsBy b persons columns notices failed = Stands b persons columns.codes.now columns.positions.now columns.keys.now notices.sellers.now notices.stands.now notices.lots.now failed

abbrev pub StandingBy : List ℕ → SectionColumns → NoticeColumns → List ℕ → Type 0
StandingBy persons columns notices failed = Standing persons columns.codes.now columns.positions.now columns.keys.now notices.sellers.now notices.stands.now notices.lots.now failed

abbrev pub MarksBy : Book → Marked → Type 0
MarksBy b marked = Marks b marked.fails.now marked.own.now marked.still.now marked.named.now

abbrev pub NamedBy : List ℕ → SectionColumns → NoticeColumns → Marked → Type 0
NamedBy persons columns notices marked =
    Named persons columns.codes.now columns.positions.now columns.keys.now notices.sellers.now notices.stands.now notices.lots.now marked.fails.now marked.own.now marked.still.now marked.named.now
