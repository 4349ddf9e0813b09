-- What a session pays into a list: the margins themselves, or margins on top of what stood there.
use Rattle.numbers.proofs.Words.{ℕ, ◌≤◌, ◌<◌, arith, ◌≡◌, sym, ap, ◌∙◌, ⊎_elim, true, false, List, [], get_or-eq_default, ℤ, pos, ◌+ℤ◌, ◌-ℤ◌, +ℤ_idl, +ℤ_idr, nat_abs, SFits, w64, listed, entry_ℤ, over}
use Rattle.rules.specs.declared.book.{Book.Book}
use Rattle.numbers.proofs.Tests.{below_or_not}
use Rattle.numbers.proofs.Whole.{difference_within, sfits_size}
use Rattle.numbers.proofs.Lists.{over_at, over_past}
use Rattle.numbers.proofs.Ranges.{listed_same, listed_front, listed-length, listed_at}
use Rattle.value_laws.proofs.Value.{value_within, worth_within}
use Rattle.rules.specs.Units.{worth}
use Rattle.rules.specs.Book.{section_at, section_of_noughts, basis_of, value_at}
use Rattle.rules.specs.Calls.{margin_of, margins}
use Rattle.book_laws.proofs.Accepted.{NewSession}
use Rattle.book_laws.proofs.Held.{held_good, held_basis}
use Rattle.book_laws.proofs.Margins.{margins_length}
use Rattle.book_laws.proofs.Effects.{Session.margin_at}
use Rattle.call_session.specs.Paid.{paid_to, paid_into}

module _ {b : Book} {price room : ℕ} (s : NewSession b price room) where
  -- a margin alone fits 64 bits (01, Session, 3)
  pub margin_fits : (list : List ℤ) (i : ℕ) → i < b.held → SFits w64 (paid_to false b price list i)
  unfolding paid_to margin_of
  margin_fits list i h =
      let good = held_good b s.book i h in
      let value = value_at b price in
      let small = difference_within (worth (section_at b i).position value).0 (basis_of (section_at b i)) (worth_within _ _ good.position (value_within s.book.k.most s.price_range.most)) (held_basis b s.book i h) in
      sfits_size w64 _ (omega (arith, small, ap nat_abs (+ℤ_idl ((worth (section_at b i).position value).0 -ℤ basis_of (section_at b i)))))

  -- margins alone are the session's own list (01, Session, 3)
  pub paid_alone : (list : List ℤ) → paid_into false b price list ≡ over (margins b price) list
  unfolding paid_to margins
  paid_alone list =
      ap (λ (ms : List ℤ). over ms list)
      (listed_same b.held _ _ (λ i h. +ℤ_idl _)
      ∙ listed_front (margin_of (value_at b price)) b.sections (section_of_noughts []) b.held (omega (arith, s.book.held, s.book.section_places_lem)))

  -- added up, each entry rises by its section's margin (01, Reading, 5)
  pub paid_held : (list : List ℤ) (i : ℕ) → i < b.held → paid_to true b price list i ≡ entry_ℤ list i +ℤ entry_ℤ (margins b price) i
  unfolding paid_to
  paid_held list i h = ap (λ (z : ℤ). entry_ℤ list i +ℤ z) (sym (margin_at b price s.book i h))

  pub paid_added : (list : List ℤ) (i : ℕ) → entry_ℤ (paid_into true b price list) i ≡ entry_ℤ list i +ℤ entry_ℤ (margins b price) i
  paid_added list i =
      let entries = listed b.held (paid_to true b price list) in
      let full = listed-length b.held (paid_to true b price list) in
      ⊎_elim
      (λ (h : i < b.held).
      over_at entries list i (pos 0) (omega (arith, h, full))
      ∙ listed_at b.held (paid_to true b price list) i (pos 0) h
      ∙ paid_held list i h)
      (λ (h : b.held ≤ i).
      over_past entries list i (pos 0) (omega (arith, h, full))
      ∙ sym (ap (λ (z : ℤ). entry_ℤ list i +ℤ z) (get_or-eq_default (margins b price) (pos 0) (omega (arith, h, margins_length b price s.book))) ∙ +ℤ_idr (entry_ℤ list i)))
      (below_or_not i b.held)
