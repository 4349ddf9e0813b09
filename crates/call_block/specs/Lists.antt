-- The lists of a block that have one length, and a book on the way through its trades.
use Rattle.std.specs.Prelude.{ℕ, ◌≡◌, List, length}
use Rattle.rules.specs.declared.book.{Book.Book, Section.Section}
use Rattle.rules.specs.Book.{with_sections, with_last}
use Rattle.rules.specs.Blocks.{Block}

-- each list has so many entries (02, b, 6)
pub record Equal (trades : Block) (n : ℕ) : Type 0 where
  pub buyers : length trades.buyers ≡ n
  pub sellers : length trades.sellers ≡ n
  pub prices : length trades.prices ≡ n
  pub lots : length trades.lots ≡ n

-- trades change a book's sections and its count of trades (01, Book, 3)
abbrev pub standing : Book → List Section → ℕ → Book
standing b sections count = with_last (with_sections b sections b.held) b.last b.price count
