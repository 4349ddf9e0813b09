-- The columns of a good book stand in the fronts of their arrays, which can be lent.
use Rattle.numbers.proofs.Words.{ℕ, ◌≤◌, arith, ◌≡◌, sym, ap, ◌∙◌, List, map, take, length, length-map, length-take, nat_abs, big_endian}
use Rattle.rules.specs.declared.book.{Book.Book, Section.Section, Notice.Notice}
use Rattle.rules.specs.Book.{held_sections, filed_notices, position_of}
use Rattle.book_laws.proofs.Good.{Good}
use Rattle.book_laws.proofs.Held.{held_length, filed_length}
use Rattle.method_columns.specs.declared.whole.{Columns.Columns}
use Rattle.method_columns.specs.Whole.{Whole}

-- the first n entries of an array are there
pub record Lendable {A : Type 0} (n : ℕ) (array : List A) : Type 0 where
  pub fits : n ≤ length array
  pub long : n ≡ length (take n array)

lendable : {A B : Type 0} {n : ℕ} {array : List A} (read : B → A) (entries : List B) → take n array ≡ map read entries → length entries ≡ n → Lendable n array
lendable {n = n} {array = array} read entries is long =
    let front = ap length is ∙ length-map entries read ∙ long in
    record { fits = omega (arith, front, length-take n array); long = sym front }

pub record Lent (b : Book) (c : Columns) : Type 0 where
  pub persons : Lendable b.held c.persons
  pub codes : Lendable b.held c.codes
  pub positions : Lendable b.held c.positions
  pub keys : Lendable b.held c.keys
  pub selling : Lendable b.filed c.selling
  pub stands : Lendable b.filed c.stands
  pub stock : Lendable b.filed c.stock

pub lent : {b : Book} {c : Columns} → Good b → Whole b c → Lent b c
lent {b} book whole =
    let held = held_length b book.section_places_lem book.held in
    let filed = filed_length b book.notice_places_lem book.filed in
    record {
      persons = lendable (λ (s : Section). s.participant) (held_sections b) whole.persons held;
      codes = lendable (λ (s : Section). s.settlement) (held_sections b) whole.codes held;
      positions = lendable position_of (held_sections b) whole.positions held;
      keys = lendable (λ (s : Section). big_endian s.code) (held_sections b) whole.keys held;
      selling = lendable (λ (n : Notice). n.section) (filed_notices b) whole.selling filed;
      stands = lendable (λ (n : Notice). n.elevator) (filed_notices b) whole.stands filed;
      stock = lendable (λ (n : Notice). nat_abs n.lots.0) (filed_notices b) whole.stock filed;
    }
