-- Columns of so many sections, within the limits of a good book.
use Rattle.std.specs.Prelude.{ℕ, ◌≡◌, ◌≤◌, ◌<◌, List, length, ℤ, nat_abs}
use Rattle.rules.specs.Words.{entry, entry_ℤ}
use Rattle.rules.specs.declared.book.Section.{Section}
use Rattle.method_laws.specs.Columns.{Columns}
use Rattle.method_steps.specs.declared.columns.SectionColumns.{SectionColumns}

pub record Held (codes : List ℕ) (positions : List ℤ) (keys : List ℕ) (sections : ℕ) : Type 0 where
  pub few : sections ≤ 128
  pub codes_long : length codes ≡ sections
  pub positions_long : length positions ≡ sections
  pub keys_long : length keys ≡ sections
  pub code : (i : ℕ) → i < length codes → entry codes i < 64
  pub position : (i : ℕ) → nat_abs (entry_ℤ positions i) ≤ 1_000_000

-- the same of columns that are lent together
abbrev pub Lent : SectionColumns → ℕ → Type 0
Lent columns sections = Held columns.codes.now columns.positions.now columns.keys.now sections

-- the sections have these columns
abbrev pub Of : List Section → SectionColumns → Type 0
Of ss columns = Columns ss columns.codes.now columns.positions.now columns.keys.now
