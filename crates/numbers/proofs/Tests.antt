-- Tests, as Bools: what a joint test says of its parts, and the other way round.
use Rattle.numbers.proofs.Words.{◌≡◌, refl, sym, ◌∙◌, ◌⊎◌, inl, inr, Bool, true, false, not, ◌&&◌, ◌||◌, true≢false, false≢true, ℕ, ◌≤◌, ◌<◌, leb, ltb, eqb, not-true, not-false, ltb-true, ltb-false, lt-ltb, le-ltb, lt-leb, le-leb, eqb-true, eqb-false, eq-eqb, ne_eqb}

pub and_left : (a b : Bool) → (a && b) ≡ true → a ≡ true
and_left true b e = refl
and_left false b e = absurd (false≢true e)

pub and_right : (a b : Bool) → (a && b) ≡ true → b ≡ true
and_right true b e = e
and_right false b e = absurd (false≢true e)

pub or_cases : (a b : Bool) → (a || b) ≡ true → (a ≡ true) ⊎ (b ≡ true)
or_cases true b e = inl refl
or_cases false b e = inr e

pub or_left : (a b : Bool) → (a || b) ≡ false → a ≡ false
or_left true b e = e
or_left false b e = refl

pub or_right : (a b : Bool) → (a || b) ≡ false → b ≡ false
or_right true b e = absurd (true≢false e)
or_right false b e = e

-- what a branch `if !t` says of the test s that t computes
pub failed : {t s : Bool} → t ≡ s → not t ≡ true → s ≡ false
failed {t} e h = sym e ∙ not-true t h

pub passed : {t s : Bool} → t ≡ s → not t ≡ false → s ≡ true
passed {t} e h = sym e ∙ not-false t h

pub both : (a b : Bool) → (a && b) ≡ true → (a ≡ true) × (b ≡ true)
both a b e = (and_left a b e, and_right a b e)

pub together : {a b : Bool} → a ≡ true → b ≡ true → (a && b) ≡ true
together p q = simp (p, q)

pub fails_left : (a b : Bool) → a ≡ false → (a && b) ≡ false
fails_left a b e = simp e

pub fails_right : (a b : Bool) → b ≡ false → (a && b) ≡ false
fails_right true b e = e
fails_right false b e = refl

-- one order of two numbers, tested the other way round
pub leb_ltb : (a b : ℕ) → leb a b ≡ not (ltb b a)
leb_ltb a b = go (ltb b a) refl
  where
    go : (t : Bool) → ltb b a ≡ t → leb a b ≡ not t
    go true e = lt-leb a b (ltb-true b a e)
    go false e = le-leb a b (ltb-false b a e)

-- two comparisons of the same outcome
pub ltb_as : (a b c d : ℕ) → (c < d → a < b) → (d ≤ c → b ≤ a) → ltb a b ≡ ltb c d
ltb_as a b c d below above = go (ltb c d) refl
  where
    go : (t : Bool) → ltb c d ≡ t → ltb a b ≡ t
    go true e = lt-ltb a b (below (ltb-true c d e))
    go false e = le-ltb a b (above (ltb-false c d e))

-- equality of two numbers, tested the other way round
pub eqb_sym : (a b : ℕ) → eqb a b ≡ eqb b a
eqb_sym a b = go (eqb b a) refl
  where
    go : (t : Bool) → eqb b a ≡ t → eqb a b ≡ t
    go true e = eq-eqb a b (sym (eqb-true b a e))
    go false e = ne_eqb a b (λ h. eqb-false b a e (sym h))

-- two numbers are in one order or the other, and the same or not
pub below_or_not : (a b : ℕ) → (a < b) ⊎ (b ≤ a)
below_or_not a b = go (ltb a b) refl
  where
    go : (t : Bool) → ltb a b ≡ t → (a < b) ⊎ (b ≤ a)
    go true e = inl (ltb-true a b e)
    go false e = inr (ltb-false a b e)

pub same_or_not : (a b : ℕ) → (a ≡ b) ⊎ (a ≡ b → ⊥)
same_or_not a b = go (eqb a b) refl
  where
    go : (t : Bool) → eqb a b ≡ t → (a ≡ b) ⊎ (a ≡ b → ⊥)
    go true e = inl (eqb-true a b e)
    go false e = inr (eqb-false a b e)
