-- What is drawn of the notices, summed at each elevator.
use Rattle.numbers.proofs.Words.{ℕ, ◌+◌, ◌≤◌, ◌<◌, arith, ◌≡◌, sym, ◌∙◌, List, ⊎_elim, length, entry, total}
use Rattle.numbers.proofs.Sums.{naturals}
use Rattle.numbers.proofs.Tests.{below_or_not}
use Rattle.numbers.proofs.Ranges.{listed-length, listed_at, listed_past, chosen_no, sum_nothing, sum_classes, total_long}
use Rattle.rules.specs.Book.{elevators}
use Rattle.rules.specs.Expiry.Passes.{offers, elevator_lots}

module _ (stands : List ℕ) (drawn : List ℕ) where
  -- there are 32 elevators
  pub elevators_length : length (elevator_lots stands drawn) ≡ elevators
  unfolding elevator_lots
  elevators_length = listed-length elevators (λ (e : ℕ). total (offers stands drawn e))

  -- the elevators have all that is drawn
  pub elevators_total : ((k : ℕ) → k < length stands → entry stands k < elevators) → length drawn ≡ length stands → total (elevator_lots stands drawn) ≡ total drawn
  unfolding elevator_lots
  elevators_total below long =
      sum_classes ◌+◌ 0 naturals (length stands) elevators (λ (k : ℕ). entry stands k) (entry drawn) below
      ∙ total_long drawn (length stands) long

  -- an elevator has what is drawn of the notices that stand there; past the last none stands
  pub elevators_at : (e : ℕ) → ((k : ℕ) → k < length stands → entry stands k < elevators) → entry (elevator_lots stands drawn) e ≡ total (offers stands drawn e)
  unfolding elevator_lots
  elevators_at e below =
      ⊎_elim
      (λ (h : e < elevators). listed_at elevators (λ (c : ℕ). total (offers stands drawn c)) e 0 h)
      (λ (h : elevators ≤ e).
      listed_past elevators (λ (c : ℕ). total (offers stands drawn c)) e 0 h
      ∙ sym (sum_nothing ◌+◌ 0 naturals (length stands) _ (λ k l. chosen_no (entry stands k) e (entry drawn k) 0 (λ s. absurd (omega (arith, h, s, below k l))))))
      (below_or_not e elevators)
