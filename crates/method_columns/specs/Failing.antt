-- What fails of the sections held, by their marks or as if every condition were met.
use Rattle.std.specs.Prelude.{ℕ, Bool, not, cond, ◌||◌, List, eqb, length}
use Rattle.rules.specs.Words.{◌and◌, listed}
use Rattle.rules.specs.declared.book.{Book.Book, Section.Section}
use Rattle.rules.specs.Book.{held_sections, filed_notices, position_of, section_of}
use Rattle.rules.specs.Expiry.{size, is_short}
use Rattle.rules.specs.Expiry.Failing.{noticed}

-- the lots of a section where it fails, given the lots of its notices; its condition counts as met where `met` says so (01, Expiry, 1.1; 02, n, 1)
abbrev pub failed_lots : Bool → Section → ℕ → ℕ
failed_lots met s noticed = cond (not (met || s.met) || is_short (position_of s) and (not s.seller || not (eqb noticed (size s)))) (size s) 0

-- of each section held
abbrev pub failing_with : Bool → Book → List ℕ
failing_with met b = listed (length (held_sections b)) (λ (i : ℕ). failed_lots met (section_of (held_sections b) i) (noticed (filed_notices b) i))
