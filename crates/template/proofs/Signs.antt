-- A minus sign, or none, as it is laid.
use Rattle.numbers.proofs.Words.{ℕ, ◌+◌, ◌≤◌, arith, ◌≡◌, List, [], ◌∷◌, eq-eqb, ne_eqb, length, set}
use Rattle.listing.specs.Laid.{Laid}
use Rattle.listing.proofs.Laws.Laid.{laid_none, laid_byte}
use Rattle.template.specs.Template.{sign_text}

no_sign : (n : ℕ) → n ≡ 0 → sign_text n ≡ []
no_sign n e = simp (eq-eqb n 0 e)

minus : (n : ℕ) → (n ≡ 0 → ⊥) → sign_text n ≡ 45 ∷ []
minus n o = simp (ne_eqb n 0 o)

pub sign_none : (was : List ℕ) (at n : ℕ) → n ≡ 0 → Laid was at (sign_text n) was at
sign_none was at n e = rw (no_sign n e) (laid_none was at)

pub sign_laid : (was : List ℕ) (at n : ℕ) → (n ≡ 0 → ⊥) → at + length (sign_text n) ≤ length was → Laid was at (sign_text n) (set was at 45) (at + 1)
sign_laid was at n o room = rw (minus n o) (laid_byte was at 45 (omega (arith, rw (minus n o) at room)))
