-- The mark of a section with no position says nothing: a book with such marks taken off (02, n, 4).
use Rattle.numbers.proofs.Words.{ℕ, ◌≡◌, sym, ap, ◌∙◌, Bool, false, not, and-false, List, [], map, set, get_or-map, map-set_same, eqb, ◌and◌}
use Rattle.numbers.proofs.Changed.{read_set}
use Rattle.rules.specs.declared.book.{Book.Book, Section.Section}
use Rattle.rules.specs.Book.{section_of, section_at, section_of_noughts, held_sections, with_sections}
use Rattle.rules.specs.Calls.{marked, after_condition}
use Rattle.rules.specs.Expiry.{size}
use Rattle.pattern_laws.proofs.Lists.{take-map}

-- a mark counts where there is a position
abbrev pub counting : Section → Bool → Bool
counting s met = met and not (eqb (size s) 0)

abbrev pub plain : Section → Section
plain s = marked s (counting s s.met)

pub plain_at : (ss : List Section) (i : ℕ) → section_of (map plain ss) i ≡ plain (section_of ss i)
unfolding marked
plain_at ss i = get_or-map plain ss i (section_of_noughts [])

abbrev pub plain_book : Book → Book
plain_book b = with_sections b (map plain b.sections) b.held

-- the sections that it holds
pub plain_held : (b : Book) → held_sections (plain_book b) ≡ map plain (held_sections b)
plain_held b = take-map plain b.held b.sections

module _ (b : Book) (i : ℕ) (met : Bool) where
  -- the mark of a section with no position is set (01, Condition, 1)
  pub plain_flat : size (section_at b i) ≡ 0 → plain_book (after_condition b i met) ≡ plain_book b
  unfolding after_condition marked
  plain_flat flat =
      let s = section_at b i in
      let nothing : (m : Bool) → counting s m ≡ false = λ m. ap (λ (lots : ℕ). m and not (eqb lots 0)) flat ∙ and-false m in
      ap (λ (ss : List Section). with_sections b ss b.held) (map-set_same plain b.sections i (marked s met) (section_of_noughts []) (ap (marked s) (nothing met ∙ sym (nothing s.met))))

  -- any mark is set: as far as it counts
  pub plain_condition : plain_book (after_condition b i met) ≡ after_condition (plain_book b) i (counting (section_at (plain_book b) i) met)
  unfolding after_condition marked
  plain_condition =
      ap (λ (ss : List Section). with_sections b ss b.held) (read_set plain b.sections i (marked (section_at b i) met) ∙ ap (λ (s : Section). set (map plain b.sections) i (marked s (counting s met))) (sym (plain_at b.sections i)))
