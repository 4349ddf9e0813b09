-- The test of a blank place says that it is one (01, Book, 2).
use Rattle.numbers.proofs.Words.{ℕ, ◌+◌, ◌-◌, ◌≤◌, ◌<◌, arith, ◌≡◌, sym, ap, ◌∙◌, true, not, ⊎_elim, [], eqb, length, drop, length-drop, get_or-eq_default, get_or-drop, eqb-true, not-true, within, same}
use Rattle.rules.specs.declared.book.{Book.Book, Section.Section}
use Rattle.numbers.proofs.Tests.{both, below_or_not}
use Rattle.numbers.proofs.Lists.{every_at}
use Rattle.numbers.proofs.Bytes.{same_eq}
use Rattle.numbers.proofs.Whole.{within_zero}
use Rattle.rules.specs.Book.{blank_code, blank_section, section_of_noughts, section_blank, section_at, position_of, basis_of}
use Rattle.book_laws.proofs.Good.{Good}

pub blank_section_lem : (s : Section) → section_blank s ≡ true → s ≡ blank_section
unfolding section_blank
blank_section_lem s e =
    let settlement = both (eqb s.settlement 0) _ e in
    let code = both (same s.code blank_code) _ settlement.1 in
    let participant = both (eqb s.participant 0) _ code.1 in
    let seller = both (not s.seller) _ participant.1 in
    let met = both (not s.met) _ seller.1 in
    let lots = both (within (position_of s) 0) (within (basis_of s) 0) met.1 in
    λ i.
    record {
      settlement = eqb-true s.settlement 0 settlement.0 i;
      code = same_eq s.code blank_code code.0 i;
      participant = eqb-true s.participant 0 participant.0 i;
      seller = not-true s.seller seller.0 i;
      met = not-true s.met met.0 i;
      position = record { 0 = within_zero (position_of s) lots.0 i };
      basis = record { 0 = within_zero (basis_of s) lots.1 i };
    }

module _ (b : Book) (book : Good b) (i : ℕ) (past : b.held ≤ i) where
  pub rest_blank : i < 128 → section_at b i ≡ blank_section
  rest_blank h =
      let none = section_of_noughts [] in
      let at : b.held + (i - b.held) ≡ i = omega arith in
      let place : i - b.held < length (drop b.held b.sections) = omega (arith, length-drop b.held b.sections, book.section_places_lem) in
      ap (λ (k : ℕ). section_at b k) (sym at)
      ∙ sym (get_or-drop b.held b.sections (i - b.held) none)
      ∙ blank_section_lem _ (every_at section_blank (drop b.held b.sections) (i - b.held) none book.sections_blank place)

  -- so is what is read past all places, but for the code
  pub rest_read : {A : Type 0} (f : Section → A) → f (section_of_noughts []) ≡ f blank_section → f (section_at b i) ≡ f blank_section
  rest_read f e =
      ⊎_elim (λ (h : i < 128). ap f (rest_blank h)) (λ (h : 128 ≤ i). ap f (get_or-eq_default b.sections (section_of_noughts []) (omega (arith, book.section_places_lem))) ∙ e)
      (below_or_not i 128)
