-- The lots of the sections that a step takes, by number.
use Rattle.numbers.proofs.Words.{ℕ, ◌≡◌, ap, ◌∙◌, Bool, cond, List, length, listed, entry}
use Rattle.rules.specs.declared.book.{Section.Section}
use Rattle.numbers.proofs.Ranges.{listed_same}
use Rattle.rules.specs.Book.{section_of}
use Rattle.rules.specs.Expiry.{chosen}

-- by a test of columns
abbrev pub lots_chosen : (ℕ → Bool) → List ℕ → ℕ → ℕ
lots_chosen test lots i = cond (test i) (entry lots i) 0

-- which is a test of sections
pub chosen_by : (ss : List Section) (by_number : ℕ → Bool) (test : Section → Bool) (lots : List ℕ) (n : ℕ) → n ≡ length ss → ((i : ℕ) → by_number i ≡ test (section_of ss i)) → listed n (lots_chosen by_number lots) ≡ chosen ss test lots
chosen_by ss by_number test lots n long told =
    ap (λ (m : ℕ). listed m (lots_chosen by_number lots)) long ∙ listed_same (length ss) _ _ (λ i h. ap (λ (t : Bool). cond t (entry lots i) 0) (told i))
