-- What a session leaves in a list that it pays margins into.
use Rattle.std.specs.Prelude.{ℕ, Bool, cond, List, ℤ, pos, ◌+ℤ◌}
use Rattle.rules.specs.Words.{listed, entry_ℤ, over}
use Rattle.rules.specs.declared.book.{Book.Book}
use Rattle.rules.specs.Book.{section_at, value_at}
use Rattle.rules.specs.Calls.{margin_of}

-- the entry of section i: its margin, on top of what stood there where margins are added up (01, Session, 3; 01, Reading, 5)
unfoldable pub paid_to : Bool → Book → ℕ → List ℤ → ℕ → ℤ
paid_to added b price list i = cond added (entry_ℤ list i) (pos 0) +ℤ margin_of (value_at b price) (section_at b i)

-- an entry for each section held, later ones as they were
abbrev pub paid_into : Bool → Book → ℕ → List ℤ → List ℤ
paid_into added b price list = over (listed b.held (paid_to added b price list)) list
