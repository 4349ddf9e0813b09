-- The stages by their definitions: their pairs are of known sections, orders that agree on these form the same pairs and lines, and with nothing to buy none is formed.
use Rattle.numbers.proofs.Words.{ℕ, zero, suc, ◌+◌, ◌-◌, ◌≤◌, ◌<◌, min, not-suc-le-zero, le_of_suc-le-suc, arith, ◌≡◌, refl, sym, ap, subst⁻¹, ◌∙◌, Bool, true, false, cond, ◌||◌, List, [], ◌∷◌, map, eqb, ltb, length, set, length-map, length-set, eq-eqb, eqb-false, ◌and◌, entry, total}
use Rattle.numbers.proofs.Entries.{entry_place, entry_part}
use Rattle.numbers.proofs.Orders.{largest_same}
use Rattle.rules.specs.Expiry.Passes.{Pair, Line, pair_of, offers, elevator_lots, fullest_buyer, fullest_elevator, fullest_pair, fullest_notice, stage_one, stage_two}
use Rattle.method_passes.specs.declared.{stage_two.Choice.Choice}
use Rattle.method_passes.specs.Formed.{pair_left, next_choice, pass_pairs, pass_lines, Known}
use Rattle.method_passes.proofs.Arrays.{left_buyer, left_length}
use Rattle.method_passes.proofs.Pairing as pairing
use Rattle.method_passes.proofs.Lining as lining
use Rattle.method_passes.proofs.Offered.{offers_length}

module _ (lower : ℕ → ℕ → Bool) where
  -- what holds of no pair, and of a pair with lots and those of what is left, holds of the pairs of a turn
  by_turn : (P : List Pair → Type 0) (n : ℕ) (bs es : List ℕ) → P [] → (fullest_buyer lower bs < length bs → P (pairing.and_so_on lower bs es (fullest_buyer lower bs) n)) → P (stage_one lower (suc n) bs es)
  by_turn P n bs es none more = go (eqb (pairing.both lower bs es b) 0) refl
    where
      b : ℕ
      b = fullest_buyer lower bs

      go : (t : Bool) → eqb (pairing.both lower bs es b) 0 ≡ t → P (stage_one lower (suc n) bs es)
      go true e = subst⁻¹ P (pairing.one_turn lower bs es n true e) none
      go false e = subst⁻¹ P (pairing.one_turn lower bs es n false e) (more (entry_place bs b (omega (arith, eqb-false (pairing.both lower bs es b) 0 e))))

  -- what a turn leaves
  abbrev buyers_left : List ℕ → List ℕ → List ℕ
  buyers_left bs es = let b = fullest_buyer lower bs in set bs b (entry bs b - pairing.both lower bs es b)

  abbrev stocks_left : List ℕ → List ℕ → List ℕ
  stocks_left bs es = let e = fullest_elevator es in set es e (entry es e - pairing.both lower bs es (fullest_buyer lower bs))

  few_pairs : (n : ℕ) (bs es : List ℕ) → length (stage_one lower n bs es) ≤ n
  few_pairs zero bs es = omega (arith, ap length (pairing.no_turn lower bs es))
  few_pairs (suc n) bs es =
      by_turn (λ (ps : List Pair). length ps ≤ suc n) n bs es (omega arith) (λ h. omega (arith, few_pairs n (buyers_left bs es) (stocks_left bs es)))

  pub known_pairs : (n : ℕ) (bs es : List ℕ) → (k : ℕ) → k < length (stage_one lower n bs es) → (pair_of (stage_one lower n bs es) k).buyer < length bs
  known_pairs zero bs es = λ k h. absurd (omega (arith, h, ap length (pairing.no_turn lower bs es)))
  known_pairs (suc n) bs es =
      by_turn (λ (ps : List Pair). (k : ℕ) → k < length ps → (pair_of ps k).buyer < length bs) n bs es (λ k h. absurd (not-suc-le-zero h)) (go (known_pairs n (buyers_left bs es) (stocks_left bs es)))
    where
      b : ℕ
      b = fullest_buyer lower bs

      left : List Pair
      left = stage_one lower n (buyers_left bs es) (stocks_left bs es)

      go : ((k : ℕ) → k < length left → (pair_of left k).buyer < length (buyers_left bs es)) → b < length bs
          → (k : ℕ) → k < length (pairing.and_so_on lower bs es b n) → (pair_of (pairing.and_so_on lower bs es b n) k).buyer < length bs
      go rest place zero h = place
      go rest place (suc k) h = omega (arith, rest k (le_of_suc-le-suc h), length-set bs b (entry bs b - pairing.both lower bs es b))

  pub pass_known_lem : (stands buyers drawn : List ℕ) → length buyers ≤ 128 → Known (pass_pairs lower stands buyers drawn) (length buyers)
  pass_known_lem stands buyers drawn few =
      let stocks = elevator_lots stands drawn in
      record { few = omega (arith, few, few_pairs (length buyers + 32) buyers stocks); buyer = known_pairs (length buyers + 32) buyers stocks }

  -- a pass with nothing to buy forms no pair and no line (01, Expiry, 6.2)
  module _ (sellers stands buyers drawn : List ℕ) (none : total buyers ≡ 0) where
    no_pairs : (n : ℕ) (stocks : List ℕ) → stage_one lower n buyers stocks ≡ []
    no_pairs zero stocks = pairing.no_turn lower buyers stocks
    no_pairs (suc n) stocks =
        let b = fullest_buyer lower buyers in
        pairing.one_turn lower buyers stocks n true (eq-eqb (pairing.both lower buyers stocks b) 0 (omega (arith, none, entry_part buyers b)))

    pub nothing_paired : pass_pairs lower stands buyers drawn ≡ []
    nothing_paired = no_pairs (length buyers + 32) (elevator_lots stands drawn)

    pub nothing_lined : pass_lines lower sellers stands buyers drawn ≡ []
    nothing_lined =
        let ps = pass_pairs lower stands buyers drawn in
        lining.nothing_lined lower sellers stands ps drawn (lining.no_pair_lem lower sellers stands ps drawn (ap length nothing_paired)) (length ps + length stands)

-- two orders of the sections below a number
module _ (f g : ℕ → ℕ → Bool) (sections : ℕ) (agree : (i j : ℕ) → i < sections → j < sections → f i j ≡ g i j) where
  pub same_pairs : (n : ℕ) (bs es : List ℕ) → length bs ≡ sections → stage_one f n bs es ≡ stage_one g n bs es
  same_pairs zero bs es long = pairing.no_turn f bs es ∙ sym (pairing.no_turn g bs es)
  same_pairs (suc n) bs es long =
      pairing.one_turn f bs es n _ refl
      ∙ ap (λ (c : ℕ). cond (eqb (pairing.both f bs es c) 0) [] (pairing.and_so_on f bs es c n)) same
      ∙ ap (λ (ps : List Pair). cond (eqb amount 0) [] (record { buyer = b; elevator = e; lots = amount } ∷ ps))
      (same_pairs n (set bs b (entry bs b - amount)) (set es e (entry es e - amount)) (length-set bs b (entry bs b - amount) ∙ long))
      ∙ sym (pairing.one_turn g bs es n _ refl)
    where
      b : ℕ
      b = fullest_buyer g bs

      e : ℕ
      e = fullest_elevator es

      amount : ℕ
      amount = min (entry bs b) (entry es e)

      same : fullest_buyer f bs ≡ b
      same = largest_same f g bs (λ i j h k. agree i j (omega (arith, h, long)) (omega (arith, k, long)))

  module _ (sellers stands : List ℕ) (sold : (k : ℕ) → k < length stands → entry sellers k < sections) where
    same_choice : (ps : List Pair) (drawn : List ℕ) → ((k : ℕ) → k < length ps → (pair_of ps k).buyer < sections) → next_choice f sellers stands ps drawn ≡ next_choice g sellers stands ps drawn
    same_choice ps drawn known =
        ap (λ (p : ℕ). make p (fullest_notice f sellers stands drawn (pair_of ps p).elevator)) same_pair
        ∙ ap (make (fullest_pair g ps)) (same_notice (pair_of ps (fullest_pair g ps)).elevator)
      where
        make : ℕ → ℕ → Choice
        make p k = record { pair = p; notice = k; lots = min (pair_of ps p).lots (entry (offers stands drawn (pair_of ps p).elevator) k) }

        long : length (map (λ (q : Pair). q.lots) ps) ≡ length ps
        long = length-map ps _

        same_pair : fullest_pair f ps ≡ fullest_pair g ps
        same_pair =
            largest_same _ _ (map (λ (q : Pair). q.lots) ps)
            (λ i j h k.
            ap (λ (t : Bool). t || eqb (pair_of ps i).buyer (pair_of ps j).buyer and ltb (pair_of ps i).elevator (pair_of ps j).elevator)
            (agree (pair_of ps i).buyer (pair_of ps j).buyer (known i (omega (arith, h, long))) (known j (omega (arith, k, long)))))

        same_notice : (e : ℕ) → fullest_notice f sellers stands drawn e ≡ fullest_notice g sellers stands drawn e
        same_notice e =
            largest_same _ _ (offers stands drawn e)
            (λ i j h k. agree (entry sellers i) (entry sellers j) (sold i (omega (arith, h, offers_length stands drawn e))) (sold j (omega (arith, k, offers_length stands drawn e))))

    pub same_lines : (n : ℕ) (ps : List Pair) (drawn : List ℕ) → ((k : ℕ) → k < length ps → (pair_of ps k).buyer < sections) → stage_two f sellers stands n ps drawn ≡ stage_two g sellers stands n ps drawn
    same_lines zero ps drawn known = lining.no_turn f sellers stands ps drawn ∙ sym (lining.no_turn g sellers stands ps drawn)
    same_lines (suc n) ps drawn known =
        lining.one_turn f sellers stands ps drawn n _ refl
        ∙ ap (λ (x : Choice). cond (eqb x.lots 0) [] (lining.and_so_on f sellers stands ps drawn x n)) (same_choice ps drawn known)
        ∙ ap (λ (ls : List Line). cond (eqb r.lots 0) [] (record { buyer = (pair_of ps r.pair).buyer; elevator = (pair_of ps r.pair).elevator; seller = entry sellers r.notice; lots = r.lots } ∷ ls))
        (same_lines n (pair_left ps r.pair left) (set drawn r.notice (entry drawn r.notice - r.lots))
        (λ k h. omega (arith, left_buyer ps r.pair left k, known k (omega (arith, h, left_length ps r.pair left)))))
        ∙ sym (lining.one_turn g sellers stands ps drawn n _ refl)
      where
        r : Choice
        r = next_choice g sellers stands ps drawn

        left : ℕ
        left = (pair_of ps r.pair).lots - r.lots
