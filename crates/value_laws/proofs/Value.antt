-- K, V and what lots are worth. Limits follow from the two laws of a rounding, for any rounding.
use Rattle.numbers.proofs.Words.{ℕ, ◌+◌, ◌*◌, ◌/◌, ◌≤◌, ◌<◌, mul-le-mul, arith, lit<, ◌≡◌, ℤ, neg_ℤ, nat_abs}
use Rattle.rules.specs.declared.units.{Kopecks.Kopecks, Lots.Lots}
use Rattle.numbers.proofs.Whole.{product_within, negated_product}
use Rattle.rules.specs.Units.{worth}
use Rattle.rules.specs.Rounding.{Rounding}
use Rattle.rules.specs.Value.{factor, value, value_of}
use Rattle.value_laws.proofs.Rounding.{rounding, rounded_most, rounded_shown}

-- every K and every V is what it was: the whole part of what is rounded, with a half added (02, c, 3)
pub factor_as_before : (w r : ℕ) → 0 < r → factor w r ≡ (2 * (100_000 * w) + r) / (2 * r)
unfolding factor
factor_as_before w r h = (rounded_shown (100_000 * w) r h).as_before

pub value_as_before : (k p : ℕ) → value k p ≡ (2 * (p * k) + 100_000) / 200_000
unfolding value
value_as_before k p = (rounded_shown (p * k) 100_000 (lit< tt)).as_before

-- K ≤ 10,000,000 and P ≤ 10,000,000 give V ≤ 1,000,000,000
value_most : {round : ℕ → ℕ → ℕ} → Rounding round → {k p : ℕ} → k ≤ 10_000_000 → p ≤ 10_000_000 → round (p * k) 100_000 ≤ 1_000_000_000
value_most r {k} {p} hk hp = rounded_most r (p * k) 100_000 1_000_000_000 (lit< tt) (omega (arith, mul-le-mul hp hk))

-- V(P) is a natural number of kopecks
pub value_within : {k p : ℕ} → k ≤ 10_000_000 → p ≤ 10_000_000 → nat_abs (value_of k p).0 ≤ 1_000_000_000
unfolding value value_of
value_within hk hp = value_most rounding hk hp

-- what lots within a limit are worth at a value within a limit
pub worth_within : (lots : Lots) (v : Kopecks) {a b : ℕ} → nat_abs lots.0 ≤ a → nat_abs v.0 ≤ b → nat_abs (worth lots v).0 ≤ a * b
unfolding worth
worth_within lots v h k = product_within lots.0 v.0 h k

-- lots sold are worth what lots bought are, with the other sign
pub worth_sold : (lots : ℤ) (v : Kopecks) → (worth (record { 0 = neg_ℤ lots }) v).0 ≡ neg_ℤ (worth (record { 0 = lots }) v).0
unfolding worth
worth_sold lots v = negated_product lots v.0
