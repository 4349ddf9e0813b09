-- A section code and its number.
use Rattle.numbers.proofs.Words.{ℕ, ◌+◌, ◌*◌, ◌≤◌, ◌<◌, arith, ◌≡◌, refl, sym, ap, subst⁻¹, ◌∙◌, ⊎_elim, Bool, true, ◌&&◌, List, [], ◌∷◌, leb, ltb, eqb, length, get_or, leb-true, eqb-true, between, every, same, before, big_endian, entry}
use lib.Pointwise.{pointwise}
use Rattle.numbers.proofs.Cells.{cells}
use Rattle.numbers.proofs.Keys.{big_same, big_before}
use Rattle.numbers.proofs.Lists.{every_at}
use Rattle.numbers.proofs.Little.{Bytes}
use Rattle.numbers.proofs.Ranges.{get_d_past}
use Rattle.numbers.proofs.Tests.{both, or_cases, below_or_not}
use Rattle.rules.specs.Book.{byte_good, section_code_good}

-- the number, byte after byte
pub seven : (code : List ℕ) → length code ≡ 7
    → big_endian code ≡ ((((((entry code 0 * 256 + entry code 1) * 256 + entry code 2) * 256 + entry code 3) * 256 + entry code 4) * 256 + entry code 5) * 256 + entry code 6)
unfolding big_endian
seven code long = subst⁻¹ (λ (l : List ℕ). big_endian l ≡ ((((((entry l 0 * 256 + entry l 1) * 256 + entry l 2) * 256 + entry l 3) * 256 + entry l 4) * 256 + entry l 5) * 256 + entry l 6)) (cells code 0 7 long) (omega arith)

-- a good code has seven bytes
allowed : (byte : ℕ) → byte_good byte ≡ true → byte < 256
allowed byte good =
    ⊎_elim (λ e. omega (arith, leb-true byte 57 (both (leb 48 byte) (leb byte 57) e).1)) (λ e. omega (arith, leb-true byte 90 (both (leb 65 byte) (leb byte 90) e).1))
    (or_cases (between 48 57 byte) (between 65 90 byte) good)

module _ (code : List ℕ) (good : section_code_good code ≡ true) where
  parts : (eqb (length code) 7 ≡ true) × (every byte_good code ≡ true)
  parts = both (eqb (length code) 7) (every byte_good code) good

  pub good_long : length code ≡ 7
  good_long = eqb-true _ _ parts.0

  pub good_bytes : Bytes code
  good_bytes i =
      ⊎_elim (λ (h : i < length code). allowed (get_or code i 0) (every_at byte_good code i 0 parts.1 h))
      (λ (h : length code ≤ i). omega (arith, get_d_past code i 0 h))
      (below_or_not i (length code))

-- what the library's `==` of two lists compares, entry by entry, is their sameness
pub pairwise_same : (xs ys : List ℕ) → pointwise eqb xs ys ≡ same xs ys
unfolding same
pairwise_same [] [] = refl
pairwise_same [] (y ∷ ys) = refl
pairwise_same (x ∷ xs) [] = refl
pairwise_same (x ∷ xs) (y ∷ ys) = ap (λ (t : Bool). eqb x y && t) (pairwise_same xs ys)

-- two good codes are the same where their numbers are equal, and one stands before the other where its number is lower
module _ (c d : List ℕ) (good : section_code_good c ≡ true) (good' : section_code_good d ≡ true) where
  long : length c ≡ length d
  long = good_long c good ∙ sym (good_long d good')

  pub code_same : same c d ≡ eqb (big_endian c) (big_endian d)
  code_same = big_same c d long (good_bytes c good) (good_bytes d good')

  pub code_before : before c d ≡ ltb (big_endian c) (big_endian d)
  code_before = big_before c d long (good_bytes c good) (good_bytes d good')
