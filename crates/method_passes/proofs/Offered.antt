-- What is drawn of the notices at an elevator, and at each elevator as the loop sums it.
use Rattle.numbers.proofs.Words.{ℕ, zero, suc, ◌+◌, ◌*◌, ◌≤◌, ◌<◌, add-one, arith, ◌≡◌, refl, sym, ap, ◌∙◌, cond, List, eqb, length, set, replicate, entry, counted, listed, gathered, total}
use Rattle.numbers.proofs.Ranges.{listed-length, listed_at, listed_under, listed-set, sum_more, chosen_yes, chosen_no}
use Rattle.numbers.proofs.Sums.{naturals}
use Rattle.numbers.proofs.Under.{under_within}
use Rattle.rules.specs.Expiry.Passes.{offers, elevator_lots}
use Rattle.method_passes.specs.Formed.{Drawn}

module _ (stands drawn : List ℕ) where
  -- what is drawn of notice k at an elevator
  abbrev pub offer : ℕ → ℕ → ℕ
  offer e k = cond (eqb (entry stands k) e) (entry drawn k) 0

  module _ (e : ℕ) where
    pub offers_length : length (offers stands drawn e) ≡ length stands
    offers_length = listed-length (length stands) (offer e)

    pub offer_at_lem : (k : ℕ) → k < length stands → entry (offers stands drawn e) k ≡ offer e k
    offer_at_lem k below = listed_at (length stands) (offer e) k 0 below

    pub offer_within : (k : ℕ) → entry (offers stands drawn e) k ≤ entry drawn k
    offer_within = listed_under (length stands) (λ (j : ℕ). eqb (entry stands j) e) (entry drawn)

  -- of the first k notices at an elevator
  abbrev so_far : ℕ → ℕ → ℕ
  so_far k e = total (listed k (offer e))

  so_far_next : (k e : ℕ) → so_far (k + 1) e ≡ so_far k e + offer e k
  so_far_next k e = ap (λ (n : ℕ). so_far n e) (add-one k) ∙ sum_more ◌+◌ 0 naturals k (offer e)

  so_far_most : ((k : ℕ) → entry drawn k ≤ 1_000_000) → (k e : ℕ) → so_far k e ≤ 1_000_000 * k
  unfolding counted gathered
  so_far_most small zero e = omega arith
  so_far_most small (suc k) e =
      omega (arith, sum_more ◌+◌ 0 naturals k (offer e), so_far_most small k e, under_within (eqb (entry stands k) e) (entry drawn k), small k)

  -- after k notices the list has their sums
  pub record Summed (out : List ℕ) (k : ℕ) : Type 0 where
    pub within : k ≤ length stands
    pub sums : out ≡ listed 32 (so_far k)

  pub summed_none : (out : List ℕ) → out ≡ replicate 32 0 → Summed out 0
  unfolding counted gathered
  summed_none out e = record { within = omega arith; sums = e }

  module _ (out : List ℕ) (k : ℕ) (s : Summed out k) where
    pub summed_length : length out ≡ 32
    summed_length = ap length s.sums ∙ listed-length 32 (so_far k)

    summed_at : (e : ℕ) → e < 32 → entry out e ≡ so_far k e
    summed_at e h = ap (λ (xs : List ℕ). entry xs e) s.sums ∙ listed_at 32 (so_far k) e 0 h

    pub summed_fits : Drawn stands drawn → (e : ℕ) → e < 32 → entry out e ≤ 256_000_000
    summed_fits d e h = omega (arith, summed_at e h, so_far_most d.small k e, s.within, d.few)

    -- one notice more
    pub summed_next : k < length stands → entry stands k < 32 → Summed (set out (entry stands k) (entry out (entry stands k) + entry drawn k)) (k + 1)
    summed_next below h =
        let e = entry stands k in
        let sum = entry out e + entry drawn k in
        record {
          within = omega (arith, below);
          sums =
              ap (λ (xs : List ℕ). set xs e sum) s.sums
              ∙ listed-set 32 (so_far k) (so_far (k + 1)) sum e h
              (λ i l other. omega (arith, so_far_next k i, chosen_no e i (entry drawn k) 0 (λ same. other (sym same))))
              (omega (arith, so_far_next k e, chosen_yes e e (entry drawn k) 0 refl, summed_at e h));
        }

    pub summed_all : length stands ≤ k → out ≡ elevator_lots stands drawn
    unfolding elevator_lots
    summed_all all = s.sums ∙ ap (λ (n : ℕ). listed 32 (so_far n)) (omega (arith, all, s.within))
