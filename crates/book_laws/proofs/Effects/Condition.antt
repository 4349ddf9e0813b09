-- What a condition call does: the mark of one section, and nothing else (01, Condition, 1).
use Rattle.numbers.proofs.Words.{ℕ, ◌<◌, ◌≡◌, refl, sym, ap, ◌∙◌, Bool, List, [], get_or, get_or-map, get_or-set_same, get_or-set_other, map-set_same}
use Rattle.rules.specs.declared.book.{Book.Book, Section.Section}
use Rattle.rules.specs.Book.{section_at, section_of_noughts}
use Rattle.rules.specs.Calls.{marked, after_condition}
use Rattle.book_laws.proofs.Good.{Good}
use Rattle.book_laws.proofs.Held.{held_place}
use Rattle.book_laws.proofs.Effects.Same.{SameTerms, SameNotices, SameSession, SameHolder}

-- what a condition call leaves of a section
pub record SameLots (new old : Section) : Type 0 where
  pub holder : SameHolder new old
  pub position : new.position ≡ old.position
  pub basis : new.basis ≡ old.basis

module _ (b : Book) (i : ℕ) (met : Bool) where
  pub condition_other : (j : ℕ) → (j ≡ i → ⊥) → section_at (after_condition b i met) j ≡ section_at b j
  unfolding after_condition
  condition_other j other = get_or-set_other b.sections i j (marked (section_at b i) met) (section_of_noughts []) other

  pub condition_section : Good b → i < b.held → section_at (after_condition b i met) i ≡ marked (section_at b i) met
  unfolding after_condition
  condition_section book known = get_or-set_same b.sections i (marked (section_at b i) met) (section_of_noughts []) (held_place b book i known)

  pub condition_met : Good b → i < b.held → (section_at (after_condition b i met) i).met ≡ met
  unfolding marked
  condition_met book known = ap (λ (s : Section). s.met) (condition_section book known)

  -- what is read of a section besides its mark is as it was, whichever the section
  pub condition_read : {A : Type 0} (f : Section → A) → ((s : Section) → f (marked s met) ≡ f s) → (j : ℕ) → f (section_at (after_condition b i met) j) ≡ f (section_at b j)
  unfolding after_condition
  condition_read f e j =
      let none = section_of_noughts [] in
      sym (get_or-map f (after_condition b i met).sections j none)
      ∙ ap (λ (ys : List _). get_or ys j (f none)) (map-set_same f b.sections i (marked (section_at b i) met) none (e (section_at b i)))
      ∙ get_or-map f b.sections j none

  pub condition_lots : (j : ℕ) → SameLots (section_at (after_condition b i met) j) (section_at b j)
  unfolding marked
  condition_lots j =
      record {
        holder =
            record {
              settlement = condition_read (λ (s : Section). s.settlement) (λ s. refl) j;
              code = condition_read (λ (s : Section). s.code) (λ s. refl) j;
              participant = condition_read (λ (s : Section). s.participant) (λ s. refl) j;
              seller = condition_read (λ (s : Section). s.seller) (λ s. refl) j;
            };
        position = condition_read (λ (s : Section). s.position) (λ s. refl) j;
        basis = condition_read (λ (s : Section). s.basis) (λ s. refl) j;
      }

  pub condition_terms : SameTerms (after_condition b i met) b
  unfolding after_condition
  condition_terms = record { lot = refl; w = refl; r = refl; expired = refl }

  pub condition_notices : SameNotices (after_condition b i met) b
  unfolding after_condition
  condition_notices = record { notices = refl; filed = refl }

  pub condition_session : SameSession (after_condition b i met) b
  unfolding after_condition
  condition_session = record { last = refl; price = refl; trades = refl }

  pub condition_held : (after_condition b i met).held ≡ b.held
  unfolding after_condition
  condition_held = refl
