-- All columns of a book, each in the front of an array.
use Rattle.std.specs.Prelude.{◌≡◌, take}
use Rattle.rules.specs.declared.book.{Book.Book}
use Rattle.rules.specs.Book.{held_sections, filed_notices}
use Rattle.rules.specs.Expiry.Passes.{sellers_in, elevators_in}
use Rattle.method_laws.specs.Columns.{participants_of, settlements_of, positions_of, keys_of, notice_lots_in}
use Rattle.method_columns.specs.declared.whole.{Columns.Columns}

pub record Whole (b : Book) (c : Columns) : Type 0 where
  pub persons : take b.held c.persons ≡ participants_of (held_sections b)
  pub codes : take b.held c.codes ≡ settlements_of (held_sections b)
  pub positions : take b.held c.positions ≡ positions_of (held_sections b)
  pub keys : take b.held c.keys ≡ keys_of (held_sections b)
  pub selling : take b.filed c.selling ≡ sellers_in (filed_notices b)
  pub stands : take b.filed c.stands ≡ elevators_in (filed_notices b)
  pub stock : take b.filed c.stock ≡ notice_lots_in (filed_notices b)
