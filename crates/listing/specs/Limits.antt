-- The limits within which a listing's length is bounded: what the papers give to every book and to every line, and the widths of a section's numbers, whether an expiry left them or not (02, m, 2 and 4).
use Rattle.std.specs.Prelude.{ℕ, ◌≤◌, ◌<◌, ◌≡◌, nat_abs, length}
use Rattle.rules.specs.Words.{entry, entry_ℤ}
use Rattle.rules.specs.declared.book.{Book.Book}
use Rattle.rules.specs.Book.{section_at}
use Rattle.rules.specs.File.{Lent}

pub record Limits (b : Book) (kept : ℕ) (lent : Lent) : Type 0 where
  pub few : kept ≤ 382
  pub held : b.held ≤ 128
  pub lot : b.lot.0 ≤ 1_000
  pub codes : (i : ℕ) → i < b.held → length (section_at b i).code ≡ 7
  pub line : (i : ℕ) → i < kept → (entry lent.lists.buyers i < b.held) × (entry lent.lists.elevators i ≤ 31) × (entry lent.lists.sellers i < b.held) × (entry lent.lists.lots i ≤ 1_000_000) × (0 < entry lent.lists.lots i)
  pub section : (i : ℕ) → i < b.held → (entry lent.lists.delivered i ≤ 4_294_967_295) × (entry lent.lists.terminated i ≤ 4_294_967_295) × (entry lent.lists.lapsed i ≤ 4_294_967_295) × (nat_abs (entry_ℤ lent.sums i) < 10_000_000_000_000_000_000)
