-- What a session does, by section number.
use Rattle.numbers.proofs.Words.{ℕ, ◌≤◌, ◌<◌, arith, ◌≡◌, refl, sym, ap, ◌∙◌, ⊎_elim, List, [], map, get_or, length-map, get_or-eq_default, get_or-take, ℤ, pos, ◌+ℤ◌, ◌*ℤ◌, +ℤ_comm, +ℤ_idr, -ℤ-+ℤ_cancel, zero-*ℤ, entry_ℤ}
use Rattle.rules.specs.declared.book.{Book.Book, Section.Section}
use Rattle.numbers.proofs.Tests.{below_or_not}
use Rattle.numbers.proofs.Changed.{read_at, same_rest}
use Rattle.rules.specs.Units.{worth}
use Rattle.rules.specs.Book.{position_of, basis_of, held_sections, section_at, section_of_noughts, value_at}
use Rattle.rules.specs.Calls.{settled, margin_of, margins, following, after_session}
use Rattle.book_laws.proofs.Good.{Good}
use Rattle.book_laws.proofs.Held.{held_length}
use Rattle.book_laws.proofs.Blank.{rest_read}
use Rattle.book_laws.proofs.Kept.Session.{settled_held, settled_rest}
use Rattle.book_laws.proofs.Effects.Same.{SameTerms, SameNotices, SameHolder}

-- entry i of what f makes of the sections held
held_read : {A : Type 0} (f : Section → A) (b : Book) → Good b → (i : ℕ) (d : A) → i < b.held → get_or (map f (held_sections b)) i d ≡ f (section_at b i)
held_read f b book i d h =
    read_at f (held_sections b) i (section_of_noughts []) d (omega (arith, held_length b book.section_places_lem book.held))
    ∙ ap f (get_or-take b.held b.sections i (section_of_noughts []) h)

module _ (b : Book) (price : ℕ) (book : Good b) where
  pub session_section : (i : ℕ) → i < b.held → section_at (after_session b price) i ≡ settled (value_at b price) (section_at b i)
  unfolding after_session
  session_section i h =
      sym (get_or-take b.held (after_session b price).sections i (section_of_noughts []) h)
      ∙ ap (λ (xs : List Section). get_or xs i (section_of_noughts [])) (settled_held b price book)
      ∙ held_read (settled (value_at b price)) b book i (section_of_noughts []) h

  -- places not held stay as they were
  pub session_rest : (i : ℕ) → b.held ≤ i → section_at (after_session b price) i ≡ section_at b i
  session_rest i h = same_rest (after_session b price).sections b.sections b.held i (section_of_noughts []) (settled_rest b price book) h

  -- the margin of section i stands at entry i (01, Session, 3)
  pub margin_at : (i : ℕ) → i < b.held → get_or (margins b price) i (pos 0) ≡ margin_of (value_at b price) (section_at b i)
  unfolding margins
  margin_at i h = held_read (margin_of (value_at b price)) b book i (pos 0) h

  -- past the sections held there is none
  pub margin_past : (i : ℕ) → b.held ≤ i → get_or (margins b price) i (pos 0) ≡ pos 0
  unfolding margins
  margin_past i h =
      get_or-eq_default (map (margin_of (value_at b price)) (held_sections b)) (pos 0)
      (omega (arith, length-map (held_sections b) (margin_of (value_at b price)), held_length b book.section_places_lem book.held))

  -- a basis becomes position·V (01, Session, 3), also past the sections held
  pub session_basis : (i : ℕ) → basis_of (section_at (after_session b price) i) ≡ (worth (section_at b i).position (value_at b price)).0
  unfolding settled worth
  session_basis i = ⊎_elim (λ h. ap basis_of (session_section i h)) past (below_or_not i b.held)
    where
      past : b.held ≤ i → basis_of (section_at (after_session b price) i) ≡ position_of (section_at b i) *ℤ (value_at b price).0
      past h = ap basis_of (session_rest i h) ∙ rest_read b book i h basis_of refl ∙ sym (zero-*ℤ (value_at b price).0) ∙ ap (λ (z : ℤ). z *ℤ (value_at b price).0) (sym (rest_read b book i h position_of refl))

  -- a margin is what the basis rises by (01, Session, 3)
  pub session_rise : (i : ℕ) → basis_of (section_at (after_session b price) i) ≡ basis_of (section_at b i) +ℤ entry_ℤ (margins b price) i
  unfolding margin_of
  session_rise i = ⊎_elim held past (below_or_not i b.held)
    where
      held : i < b.held → basis_of (section_at (after_session b price) i) ≡ basis_of (section_at b i) +ℤ entry_ℤ (margins b price) i
      held h = session_basis i ∙ sym (ap (λ (z : ℤ). basis_of (section_at b i) +ℤ z) (margin_at i h) ∙ +ℤ_comm (basis_of (section_at b i)) _ ∙ -ℤ-+ℤ_cancel _ (basis_of (section_at b i)))

      past : b.held ≤ i → basis_of (section_at (after_session b price) i) ≡ basis_of (section_at b i) +ℤ entry_ℤ (margins b price) i
      past h = rw (margin_past i h, session_rest i h) (sym (+ℤ_idr (basis_of (section_at b i))))

  pub session_read : {A : Type 0} (f : Section → A) → ((s : Section) → f (settled (value_at b price) s) ≡ f s) → (i : ℕ) → f (section_at (after_session b price) i) ≡ f (section_at b i)
  session_read f e i = ⊎_elim (λ h. ap f (session_section i h) ∙ e (section_at b i)) (λ h. ap f (session_rest i h)) (below_or_not i b.held)

  pub session_position : (i : ℕ) → position_of (section_at (after_session b price) i) ≡ position_of (section_at b i)
  unfolding settled
  session_position = session_read position_of (λ s. refl)

  pub session_holder : (i : ℕ) → SameHolder (section_at (after_session b price) i) (section_at b i)
  unfolding settled
  session_holder i =
      record {
        settlement = session_read (λ (s : Section). s.settlement) (λ s. refl) i;
        code = session_read (λ (s : Section). s.code) (λ s. refl) i;
        participant = session_read (λ (s : Section). s.participant) (λ s. refl) i;
        seller = session_read (λ (s : Section). s.seller) (λ s. refl) i;
      }

  pub session_met : (i : ℕ) → (section_at (after_session b price) i).met ≡ (section_at b i).met
  unfolding settled
  session_met = session_read (λ (s : Section). s.met) (λ s. refl)

-- of the book itself only the session and the count of trades change (01, Session, 2)
module _ (b : Book) (price : ℕ) where
  pub session_terms : SameTerms (after_session b price) b
  unfolding after_session
  session_terms = record { lot = refl; w = refl; r = refl; expired = refl }

  pub session_notices : SameNotices (after_session b price) b
  unfolding after_session
  session_notices = record { notices = refl; filed = refl }

  pub session_held : (after_session b price).held ≡ b.held
  unfolding after_session
  session_held = refl

  pub session_kind : (after_session b price).last ≡ following b.last
  unfolding after_session
  session_kind = refl

  pub session_price : (after_session b price).price ≡ price
  unfolding after_session
  session_price = refl

  pub session_count : (after_session b price).trades ≡ 0
  unfolding after_session
  session_count = refl
