-- Naming a section with no position besides doubles each count (02, n, 4).
use Rattle.numbers.proofs.Words.{ℕ, ◌*◌, arith, ◌≡◌, sym, ap, ap₂, ◌∙◌, Bool, true, false, not, ◌||◌, List, [], ◌∷◌, eqb, entry, ◌and◌, passing}
use Rattle.numbers.proofs.Counts.{one}
use Rattle.rules.specs.declared.book.{Book.Book, Section.Section}
use Rattle.rules.specs.Book.{section_at, held_sections, filed_notices}
use Rattle.rules.specs.Calls.{marked, after_condition}
use Rattle.rules.specs.Expiry.{size}
use Rattle.rules.specs.Expiry.Call.{delivered}
use Rattle.rules.specs.Failures.{patterns, delivered_in, in_full, not_at_all, in_part}
use Rattle.pattern_laws.proofs.Lists.{passing_front}
use Rattle.pattern_laws.proofs.Ending.{ending, ending_more}
use Rattle.pattern_laws.proofs.Plain.{counting, plain_book, plain_at, plain_held, plain_flat, plain_condition}
use Rattle.pattern_laws.proofs.Steps.{delivered_plain}

-- a way to end that does not see marks that do not count
module _ (ends : Book → Bool) (unseen : (b : Book) → ends (plain_book b) ≡ ends b) where
  same_ending : (named : List ℕ) (b c : Book) → plain_book b ≡ plain_book c → ending ends named b ≡ ending ends named c
  unfolding patterns passing
  same_ending [] b c e = omega (arith, passing_front ends b [], passing_front ends c [], ap one (sym (unseen b) ∙ ap ends e ∙ unseen c))
  same_ending (j ∷ named) b c e =
      let next : (m : Bool) → ending ends named (after_condition b j m) ≡ ending ends named (after_condition c j m) =
      λ m. same_ending named (after_condition b j m) (after_condition c j m)
      (plain_condition b j m ∙ ap (λ (p : Book). after_condition p j (counting (section_at p j) m)) e ∙ sym (plain_condition c j m)) in
      omega (arith, ending_more ends j named b, ending_more ends j named c, next true, next false)

  pub doubled : (b : Book) (i : ℕ) (named : List ℕ) → size (section_at b i) ≡ 0 → ending ends (i ∷ named) b ≡ 2 * ending ends named b
  doubled b i named flat =
      let same : (m : Bool) → ending ends named (after_condition b i m) ≡ ending ends named b = λ m. same_ending named (after_condition b i m) b (plain_flat b i m flat) in
      omega (arith, ending_more ends i named b, same true, same false)

-- the three ways are such (02, n, 2 and 3)
module _ (asked : ℕ) (b : Book) where
  delivered_unseen : delivered_in asked (plain_book b) ≡ delivered_in asked b
  unfolding delivered_in
  delivered_unseen =
      ap (λ (ss : List Section). entry (delivered ss (filed_notices b)) asked) (plain_held b) ∙ ap (λ (lots : List ℕ). entry lots asked) (delivered_plain (held_sections b) (filed_notices b))

  size_unseen : size (section_at (plain_book b) asked) ≡ size (section_at b asked)
  unfolding marked
  size_unseen = ap size (plain_at b.sections asked)

  pub full_unseen : in_full asked (plain_book b) ≡ in_full asked b
  unfolding in_full
  full_unseen = ap₂ eqb delivered_unseen size_unseen

  pub none_unseen : not_at_all asked (plain_book b) ≡ not_at_all asked b
  unfolding not_at_all
  none_unseen = ap₂ (λ (lots all : ℕ). eqb lots 0 and not (eqb all 0)) delivered_unseen size_unseen

  pub part_unseen : in_part asked (plain_book b) ≡ in_part asked b
  unfolding in_part
  part_unseen = ap₂ (λ (s t : Bool). not (s || t)) full_unseen none_unseen
