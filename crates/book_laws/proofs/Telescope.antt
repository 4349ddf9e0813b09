-- The limits of the telescoping sum. With m the sum of a section's margins so far and e the signed sum of its lots times entry
-- value, m + e is its basis (demand 3.5): so the margins so far are within what a basis and the trades' entries can be.
use Rattle.numbers.proofs.Words.{ℕ, ◌+◌, ◌≤◌, zero-le, ◌≡◌, refl, subst, ⊎_elim, ℤ, nat_abs, ◌+ℤ◌, +ℤ-neg_ℤ_cancel}
use Rattle.rules.specs.declared.{book.Book.Book}
use Rattle.numbers.proofs.Tests.{below_or_not}
use Rattle.numbers.proofs.Whole.{difference_within}
use Rattle.value_laws.proofs.Value.{value_within, worth_within}
use Rattle.rules.specs.Units.{worth}
use Rattle.rules.specs.Book.{basis_of, section_at, value_at}
use Rattle.rules.specs.History.{sided}
use Rattle.book_laws.proofs.Accepted.{NewTrade}
use Rattle.book_laws.proofs.Good.{Good}
use Rattle.book_laws.proofs.Held.{held_basis}
use Rattle.book_laws.proofs.Blank.{rest_read}
use Rattle.book_laws.proofs.Effects.Trade.{trade_for, side_within}

-- what one trade enters for section i
pub entered_within : (b : Book) (buyer seller price lots : ℕ) → NewTrade b buyer seller price lots → (i : ℕ) → nat_abs (worth (record { 0 = sided i (trade_for b buyer seller price lots) }) (value_at b price)).0 ≤ 10_000_000_000_000
entered_within b buyer seller price lots call i =
    worth_within _ (value_at b price) (side_within (trade_for b buyer seller price lots) call.size.lots_range.most i) (value_within call.party.book.k.most call.size.price_range.most)

basis_within : (b : Book) → Good b → (i : ℕ) → nat_abs (basis_of (section_at b i)) ≤ 21_000_000_000_000_000
basis_within b book i =
    ⊎_elim (held_basis b book i) (λ (h : b.held ≤ i). rw (rest_read b book i h basis_of refl) zero-le) (below_or_not i b.held)

pub margins_within : (b : Book) (i : ℕ) (m e : ℤ) → Good b → m +ℤ e ≡ basis_of (section_at b i) → (most : ℕ) → nat_abs e ≤ most → nat_abs m ≤ 21_000_000_000_000_000 + most
margins_within b i m e book was most h =
    subst (λ (z : ℤ). nat_abs z ≤ 21_000_000_000_000_000 + most) (+ℤ-neg_ℤ_cancel m e) (difference_within (m +ℤ e) e (rw was (basis_within b book i)) h)
