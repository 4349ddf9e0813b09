-- The sections held and the notices filed, as lists that a loop over a book's places goes along.
use Rattle.numbers.proofs.Words.{ℕ, ◌≤◌, ◌<◌, le_antisymm, ◌≡◌, sym, ap, subst, ◌∙◌, true≢false, List, [], ⊎_elim, length, length-take-le, arith, nat_abs, same}
use Rattle.rules.specs.declared.book.{Book.Book, Section.Section}
use Rattle.numbers.proofs.Lists.{Has, has_take, every_at, every_has, apart_at}
use Rattle.numbers.proofs.Orders.{Ranks}
use Rattle.numbers.proofs.Bytes.{same_self, before_self, before_trans, before-total}
use Rattle.numbers.proofs.Tests.{below_or_not}
use Rattle.rules.specs.Book.{held_sections, filed_notices, section_at, section_of, notice_at, notice_of, notice_good, basis_of, section_of_noughts, blank_notice, section_good, section_codes_alike}
use Rattle.rules.specs.Expiry.{lower_section_code}
use Rattle.book_laws.proofs.Good.{Good, SectionGood, section_facts, NoticeGood, notice_facts}

module _ (b : Book) (places : length b.sections ≡ 128) (most : b.held ≤ 128) where
  fits : b.held ≤ length b.sections
  fits = subst (λ (n : ℕ). b.held ≤ n) (sym places) most

  pub held_length : length (held_sections b) ≡ b.held
  held_length = length-take-le b.held b.sections fits

  pub has_section : (i : ℕ) → i < b.held → Has (held_sections b) i (section_at b i)
  has_section i h = has_take b.held b.sections i (section_of_noughts _) h fits

module _ (b : Book) (places : length b.notices ≡ 256) (most : b.filed ≤ 256) where
  fits' : b.filed ≤ length b.notices
  fits' = subst (λ (n : ℕ). b.filed ≤ n) (sym places) most

  pub filed_length : length (filed_notices b) ≡ b.filed
  filed_length = length-take-le b.filed b.notices fits'

  pub has_notice : (i : ℕ) → i < b.filed → Has (filed_notices b) i (notice_at b i)
  has_notice i h = has_take b.filed b.notices i blank_notice h fits'

-- what a good book says of a section held
pub held_good : (b : Book) → Good b → (i : ℕ) → i < b.held → SectionGood b.trades (section_at b i)
held_good b book i h =
    section_facts _ _ (every_has (section_good b.trades) (has_section b book.section_places_lem book.held i h) book.sections)

-- its basis is within the limit of a book with all its trades
pub held_basis : (b : Book) → Good b → (i : ℕ) → i < b.held → nat_abs (basis_of (section_at b i)) ≤ 21_000_000_000_000_000
held_basis b book i h = omega (arith, (held_good b book i h).basis, book.trades)

-- a section held has a place
pub held_place : (b : Book) → Good b → (i : ℕ) → i < b.held → i < length b.sections
held_place b book i h = omega (arith, book.held, book.section_places_lem)

-- the same of a section by its number among those held, and of a notice among those filed
module _ (b : Book) (book : Good b) where
  abbrev ss : List Section
  ss = held_sections b

  pub listed_good : (i : ℕ) → i < length ss → SectionGood b.trades (section_of ss i)
  listed_good i h = section_facts _ _ (every_at (section_good b.trades) ss i (section_of_noughts []) book.sections h)

  pub filed_good : (k : ℕ) → k < length (filed_notices b) → NoticeGood b.held (notice_of (filed_notices b) k)
  filed_good k h = notice_facts _ _ (every_at (notice_good b.held) (filed_notices b) k blank_notice book.notices h)

  pub held_codes : (i : ℕ) → i < length (held_sections b) → (section_of (held_sections b) i).settlement < 64
  held_codes i h = omega (arith, (listed_good i h).settlement)

  -- a section and a later one have different codes
  differ : (i j : ℕ) → i < j → j < length ss → (section_of ss i).code ≡ (section_of ss j).code → ⊥
  differ i j h k e =
      true≢false
      (sym (same_self (section_of ss j).code)
      ∙ sym (ap (λ (c : List ℕ). same c (section_of ss j).code) e)
      ∙ apart_at section_codes_alike ss (section_of_noughts []) i j book.codes_apart h k)

  told : (i j : ℕ) → i < length ss → j < length ss → (section_of ss i).code ≡ (section_of ss j).code → i ≡ j
  told i j h k e =
      ⊎_elim (λ (l : i < j). absurd (differ i j l k e))
      (λ (l : j ≤ i). ⊎_elim (λ (m : j < i). absurd (differ j i m h (sym e))) (λ (m : i ≤ j). le_antisymm m l) (below_or_not j i))
      (below_or_not i j)

  -- so section codes tell the sections apart (01, Book, 3)
  pub held_told : Ranks (length (held_sections b)) (lower_section_code (held_sections b))
  held_told =
      let code : ℕ → List ℕ = λ (i : ℕ). (section_of ss i).code in
      record {
        self = λ i. before_self (code i);
        along = λ i j k. before_trans (code i) (code j) (code k);
        apart = λ i j h k p q. told i j h k (before-total (code i) (code j) ((listed_good i h).code_length ∙ sym (listed_good j k).code_length) p q);
      }
