-- Openings and books are judged as they were before request c), whatever R is: a divisor 0, where alone the rounding differs, is refused before K is looked at.
use Rattle.numbers.proofs.Words.{ℕ, ◌+◌, ◌*◌, ◌/◌, ◌≡◌, refl, ap, Bool, true, false, not, [], ◌∷◌, leb, leb-true, between, ◌and◌}
use Rattle.numbers.proofs.Tests.{both}
use Rattle.rules.specs.declared.book.{Book.Book}
use Rattle.rules.specs.Book.{lot_good, steps_good, factor_good, terms_good}
use Rattle.rules.specs.Calls.{◌if◌, first, opening_number}
use Rattle.value_laws.proofs.Value.{factor_as_before}

-- K within its limits, as K was: the whole part of 100,000·W/R with a half added
abbrev factor_good_before : ℕ → ℕ → Bool
factor_good_before w r = between 1 10_000_000 ((2 * (100_000 * w) + r) / (2 * r))

-- where W and R are within theirs, R is above 0; where they are not, K is not looked at
guarded : {A : Type 0} (w r : ℕ) (judged : Bool → Bool → A) → judged false (factor_good w r) ≡ judged false (factor_good_before w r) → judged (steps_good w r) (factor_good w r) ≡ judged (steps_good w r) (factor_good_before w r)
guarded w r judged other = go (steps_good w r) refl
  where
    go : (t : Bool) → steps_good w r ≡ t → judged t (factor_good w r) ≡ judged t (factor_good_before w r)
    go true e =
        let step = (both (between 1 1_000_000 w) (between 1 1_000_000 r) e).1 in
        ap (λ (k : ℕ). judged true (between 1 10_000_000 k)) (factor_as_before w r (leb-true 1 r (both (leb 1 r) (leb r 1_000_000) step).0))
    go false e = other

-- so neither a book's terms nor the number of an opening is judged otherwise (02, c, 3)
pub terms_as_before : (b : Book) → terms_good b ≡ (lot_good b.lot.0 and steps_good b.w b.r and factor_good_before b.w b.r)
unfolding terms_good
terms_as_before b = guarded b.w b.r (λ (steps factor : Bool). lot_good b.lot.0 and steps and factor) refl

pub opening_as_before : (lot w r : ℕ) → opening_number lot w r ≡ first (2 if not (lot_good lot) ∷ 3 if not (steps_good w r) ∷ 4 if not (factor_good_before w r) ∷ [])
unfolding opening_number first
opening_as_before lot w r = guarded w r (λ (steps factor : Bool). first (2 if not (lot_good lot) ∷ 3 if not steps ∷ 4 if not factor ∷ [])) refl
