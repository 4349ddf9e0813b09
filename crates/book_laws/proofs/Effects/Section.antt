-- What a section call does: one section more, and those held stay as they were (01, Book, 1).
use Rattle.numbers.proofs.Words.{ℕ, ◌+◌, ◌<◌, arith, ◌≡◌, refl, sym, ap, ◌∙◌, Bool, false, ⊎_elim, List, [], get_or-set_same, get_or-set_other, pos}
use Rattle.rules.specs.declared.book.{Book.Book, Section.Section}
use Rattle.numbers.proofs.Tests.{same_or_not}
use Rattle.rules.specs.Book.{position_of, basis_of, section_at, section_of_noughts, blank_section}
use Rattle.rules.specs.Calls.{new_section, with_section}
use Rattle.book_laws.proofs.Blank.{rest_read}
use Rattle.book_laws.proofs.Good.{Good}
use Rattle.book_laws.proofs.Effects.Same.{SameTerms, SameNotices, SameSession}

module _ (b : Book) (s : Section) where
  pub section_other : (i : ℕ) → (i ≡ b.held → ⊥) → section_at (with_section b s) i ≡ section_at b i
  unfolding with_section
  section_other i not_new = get_or-set_other b.sections b.held i s (section_of_noughts []) not_new

  pub section_new : Good b → b.held < 128 → section_at (with_section b s) b.held ≡ s
  unfolding with_section
  section_new book room = get_or-set_same b.sections b.held s (section_of_noughts []) (omega (arith, book.section_places_lem))

  -- what is nought of the new section was nought at its place
  pub section_read : {A : Type 0} (f : Section → A) → f s ≡ f blank_section → f (section_of_noughts []) ≡ f blank_section → Good b → b.held < 128 → (i : ℕ) → f (section_at (with_section b s) i) ≡ f (section_at b i)
  section_read f e none book room i =
      ⊎_elim
      (λ (h : i ≡ b.held). rw h (ap f (section_new book room) ∙ e ∙ sym (rest_read b book b.held (omega arith) f none)))
      (λ (h : i ≡ b.held → ⊥). ap f (section_other i h))
      (same_or_not i b.held)

  pub section_terms : SameTerms (with_section b s) b
  unfolding with_section
  section_terms = record { lot = refl; w = refl; r = refl; expired = refl }

  pub section_notices : SameNotices (with_section b s) b
  unfolding with_section
  section_notices = record { notices = refl; filed = refl }

  pub section_session : SameSession (with_section b s) b
  unfolding with_section
  section_session = record { last = refl; price = refl; trades = refl }

  pub section_held : (with_section b s).held ≡ b.held + 1
  unfolding with_section
  section_held = refl

-- a new section (01, Book, 3)
pub record New (s : Section) (settlement : ℕ) (code : List ℕ) (participant : ℕ) (seller : Bool) : Type 0 where
  pub settlement_is : s.settlement ≡ settlement
  pub code_is : s.code ≡ code
  pub participant_is : s.participant ≡ participant
  pub seller_is : s.seller ≡ seller
  pub not_met : s.met ≡ false
  pub no_position : position_of s ≡ pos 0
  pub no_basis : basis_of s ≡ pos 0

pub new_section_lem : (settlement : ℕ) (code : List ℕ) (participant : ℕ) (seller : Bool) → New (new_section settlement code participant seller) settlement code participant seller
unfolding new_section
new_section_lem settlement code participant seller =
    record { settlement_is = refl; code_is = refl; participant_is = refl; seller_is = refl; not_met = refl; no_position = refl; no_basis = refl }

-- so no position and no basis changes
module _ (b : Book) (book : Good b) (room : b.held < 128) (settlement : ℕ) (code : List ℕ) (participant : ℕ) (seller : Bool) (i : ℕ) where
  pub section_position : position_of (section_at (with_section b (new_section settlement code participant seller)) i) ≡ position_of (section_at b i)
  unfolding new_section
  section_position = section_read b (new_section settlement code participant seller) position_of refl refl book room i

  pub section_basis : basis_of (section_at (with_section b (new_section settlement code participant seller)) i) ≡ basis_of (section_at b i)
  unfolding new_section
  section_basis = section_read b (new_section settlement code participant seller) basis_of refl refl book room i
