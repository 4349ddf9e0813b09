-- Stage one: the pairs that a pass forms.
use Rattle.numbers.proofs.Words.{ℕ, zero, suc, ◌+◌, ◌-◌, ◌≤◌, ◌<◌, min, min-le_left, min-le_right, arith, ◌≡◌, refl, sym, ap, ◌∙◌, Bool, true, false, cond, List, [], ◌∷◌, map, ◌⊎◌, inl, inr, ⊎_elim, eqb, ltb, length, set, lt-ltb, eqb-true, eqb-false, every, entry, gathered, total}
use Rattle.numbers.proofs.Entries.{entry_part, none_past, none_total, off_entry, off_total}
use Rattle.numbers.proofs.Counts.{live, live_empty, live_some, live_off}
use Rattle.numbers.proofs.Tests.{together, below_or_not}
use Rattle.numbers.proofs.Ranges.{total_entries}
use Rattle.numbers.proofs.Orders.{largest_none}
use Rattle.rules.specs.Expiry.Passes.{Pair, fullest_buyer, fullest_elevator, stage_one}

-- the lots of the pairs that pass a test
abbrev pub pair_lots : (Pair → Bool) → List Pair → ℕ
pair_lots test ps = total (map (λ (p : Pair). cond (test p) p.lots 0) ps)

-- what the pairs of buyers' lots and elevators' lots come to: all lots are paired, and all pairs but the last end a buyer or an elevator
pub record Paired (buyers elevators : List ℕ) (ps : List Pair) : Type 0 where
  pub by_buyer : (b : ℕ) → pair_lots (λ (p : Pair). eqb p.buyer b) ps ≡ entry buyers b
  pub by_elevator : (e : ℕ) → pair_lots (λ (p : Pair). eqb p.elevator e) ps ≡ entry elevators e
  pub above_nothing : every (λ (p : Pair). ltb 0 p.lots) ps ≡ true
  pub few : (ps ≡ []) ⊎ (length ps + 1 ≤ live (length buyers) (entry buyers) + live (length elevators) (entry elevators))

-- where nothing is left, no pair is formed
paired_none : (buyers elevators : List ℕ) → ((b : ℕ) → entry buyers b ≡ 0) → ((e : ℕ) → entry elevators e ≡ 0) → Paired buyers elevators []
unfolding gathered every
paired_none buyers elevators none none' = record { by_buyer = λ b. sym (none b); by_elevator = λ e. sym (none' e); above_nothing = refl; few = inl refl }

-- a pair that ends a buyer or an elevator, and the pairs of what is left
module _ (buyers elevators : List ℕ) (b e amount : ℕ) (some : 0 < amount) (of_buyer : amount ≤ entry buyers b) (of_elevator : amount ≤ entry elevators e)
    (ends : (entry buyers b ≡ amount) ⊎ (entry elevators e ≡ amount)) where
  abbrev lives : List ℕ → List ℕ → ℕ
  lives xs ys = live (length xs) (entry xs) + live (length ys) (entry ys)

  abbrev buyers' : List ℕ
  buyers' = set buyers b (entry buyers b - amount)

  abbrev elevators' : List ℕ
  elevators' = set elevators e (entry elevators e - amount)

  left_even : total buyers ≡ total elevators → total buyers' ≡ total elevators'
  left_even even = omega (arith, even, off_total buyers b amount of_buyer, off_total elevators e amount of_elevator)

  left_lives : lives buyers' elevators' + 1 ≤ lives buyers elevators
  left_lives =
      let left = live_off buyers b amount some of_buyer in
      let left' = live_off elevators e amount some of_elevator in
      ⊎_elim (λ (h : entry buyers b ≡ amount). omega (arith, h, left, left')) (λ (h : entry elevators e ≡ amount). omega (arith, h, left, left')) ends

  -- an entry that is taken from is one of those above 0
  live_at : (xs : List ℕ) (i : ℕ) → amount ≤ entry xs i → 0 < live (length xs) (entry xs)
  live_at xs i within = live_some (length xs) (entry xs) (omega (arith, some, within, entry_part xs i, total_entries xs))

  few_more : (ps : List Pair) → (ps ≡ []) ⊎ (length ps + 1 ≤ lives buyers' elevators') → suc (length ps) + 1 ≤ lives buyers elevators
  few_more ps few =
      ⊎_elim
      (λ (h : ps ≡ []). omega (arith, ap length h, live_at buyers b of_buyer, live_at elevators e of_elevator))
      (λ (h : length ps + 1 ≤ lives buyers' elevators'). omega (arith, h, left_lives))
      few

  paired_more : (ps : List Pair) → Paired buyers' elevators' ps → Paired buyers elevators (record { buyer = b; elevator = e; lots = amount } ∷ ps)
  unfolding gathered every
  paired_more ps rest =
      record {
        by_buyer = λ c. ap (λ (n : ℕ). cond (eqb b c) amount 0 + n) (rest.by_buyer c) ∙ off_entry buyers b amount of_buyer c;
        by_elevator = λ c. ap (λ (n : ℕ). cond (eqb e c) amount 0 + n) (rest.by_elevator c) ∙ off_entry elevators e amount of_elevator c;
        above_nothing = together (lt-ltb 0 amount some) rest.above_nothing;
        few = inr (few_more ps rest.few);
      }

-- stage one pairs all lots, where buyers and elevators have as many and there are turns enough
pub paired : (lower : ℕ → ℕ → Bool) (turns : ℕ) (buyers elevators : List ℕ) → total buyers ≡ total elevators → live (length buyers) (entry buyers) + live (length elevators) (entry elevators) ≤ turns → Paired buyers elevators (stage_one lower turns buyers elevators)
unfolding stage_one
paired lower zero buyers elevators even enough =
    paired_none buyers elevators
    (none_past buyers (live_empty (length buyers) (entry buyers) (omega (arith, enough))))
    (none_past elevators (live_empty (length elevators) (entry elevators) (omega (arith, enough))))
paired lower (suc turns) buyers elevators even enough = go (eqb amount 0) refl (paired lower turns _ _)
  where
    b : ℕ
    b = fullest_buyer lower buyers

    e : ℕ
    e = fullest_elevator elevators

    amount : ℕ
    amount = min (entry buyers b) (entry elevators e)

    pair : Pair
    pair = record { buyer = b; elevator = e; lots = amount }

    buyers_left_lem : List ℕ
    buyers_left_lem = set buyers b (entry buyers b - amount)

    elevators_left : List ℕ
    elevators_left = set elevators e (entry elevators e - amount)

    ends : (entry buyers b ≡ amount) ⊎ (entry elevators e ≡ amount)
    ends =
        ⊎_elim (λ (h : entry buyers b < entry elevators e). inl (omega (arith, h))) (λ (h : entry elevators e ≤ entry buyers b). inr (omega (arith, h)))
        (below_or_not (entry buyers b) (entry elevators e))

    nothing : amount ≡ 0 → Paired buyers elevators []
    nothing zero-amount =
        ⊎_elim
        (λ (h : entry buyers b ≡ amount).
        let none = largest_none lower buyers (h ∙ zero-amount) in
        paired_none buyers elevators none (λ c. omega (arith, even, none_total buyers (λ i l. none i), entry_part elevators c)))
        (λ (h : entry elevators e ≡ amount).
        let none = largest_none (λ (i j : ℕ). ltb i j) elevators (h ∙ zero-amount) in
        paired_none buyers elevators (λ c. omega (arith, even, none_total elevators (λ i l. none i), entry_part buyers c)) none)
        ends

    go : (t : Bool) → eqb amount 0 ≡ t
        → (total buyers_left_lem ≡ total elevators_left → live (length buyers_left_lem) (entry buyers_left_lem) + live (length elevators_left) (entry elevators_left) ≤ turns
        → Paired buyers_left_lem elevators_left (stage_one lower turns buyers_left_lem elevators_left))
        → Paired buyers elevators (elim t [ true ↦ [] | false ↦ pair ∷ stage_one lower turns buyers_left_lem elevators_left ])
    go true none rest = nothing (eqb-true amount 0 none)
    go false above rest =
        let some : 0 < amount = omega (arith, eqb-false amount 0 above) in
        let of_buyer = min-le_left (entry buyers b) (entry elevators e) in
        let of_elevator = min-le_right (entry buyers b) (entry elevators e) in
        paired_more buyers elevators b e amount some of_buyer of_elevator ends (stage_one lower turns buyers_left_lem elevators_left)
        (rest (left_even buyers elevators b e amount some of_buyer of_elevator ends even) (omega (arith, enough, left_lives buyers elevators b e amount some of_buyer of_elevator ends)))
