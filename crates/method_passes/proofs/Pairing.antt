-- Stage one, as its loop goes: the pairs formed, and those that stage one forms of what is left, are all pairs.
use Rattle.numbers.proofs.Words.{ℕ, suc, ◌+◌, ◌-◌, ◌≤◌, ◌<◌, min, arith, ◌≡◌, refl, sym, ap, ◌∙◌, Bool, true, false, cond, List, [], ◌∷◌, ◌++◌, append_assoc, append-nil, eqb, length, length-set, set, eq-eqb, ne_eqb, entry}
use Rattle.numbers.proofs.Entries.{entry_place}
use Rattle.rules.specs.Expiry.Passes.{Pair, fullest_buyer, fullest_elevator, stage_one}
use Rattle.method_passes.specs.declared.{pairs.Pairs.Pairs}
use Rattle.method_passes.specs.Formed.{pairs_in}
use Rattle.method_passes.proofs.Arrays.{pairs_count, one_more_pair}

-- a turn: the fullest buyer and the fullest elevator, what they have, and the smaller of it
pub record Turn (lower : ℕ → ℕ → Bool) (bs es : List ℕ) (b e has stands amount : ℕ) : Type 0 where
  pub buyer : b ≡ fullest_buyer lower bs
  pub elevator : e ≡ fullest_elevator es
  pub of_buyer : has ≡ entry bs b
  pub of_elevator : stands ≡ entry es e
  pub smaller : amount ≡ min has stands

module _ (lower : ℕ → ℕ → Bool) where
  -- the turn that the definition takes
  module _ (bs es : List ℕ) where
    abbrev most : ℕ
    most = fullest_elevator es

    abbrev pub both : ℕ → ℕ
    both b = min (entry bs b) (entry es most)

    abbrev pub and_so_on : ℕ → ℕ → List Pair
    and_so_on b n = record { buyer = b; elevator = most; lots = both b } ∷ stage_one lower n (set bs b (entry bs b - both b)) (set es most (entry es most - both b))

    pub one_turn : (n : ℕ) (t : Bool) → eqb (both (fullest_buyer lower bs)) 0 ≡ t → stage_one lower (suc n) bs es ≡ cond t [] (and_so_on (fullest_buyer lower bs) n)
    unfolding stage_one
    one_turn n t e = go (eqb (both b) 0) ∙ ap (λ (u : Bool). cond u [] (and_so_on b n)) e
      where
        b : ℕ
        b = fullest_buyer lower bs

        go : (u : Bool) → elim u [ true ↦ [] | false ↦ and_so_on b n ] ≡ cond u [] (and_so_on b n)
        go true = refl
        go false = refl

  pub no_turn : (bs es : List ℕ) → stage_one lower 0 bs es ≡ []
  unfolding stage_one
  no_turn bs es = refl

  module _ {bs es : List ℕ} {b e has stands amount : ℕ} (turn : Turn lower bs es b e has stands amount) where
    same_amount : amount ≡ both bs es (fullest_buyer lower bs)
    same_amount = rw (turn.smaller, turn.of_buyer, turn.of_elevator, turn.buyer, turn.elevator)

    turn_pair : (n : ℕ) → (amount ≡ 0 → ⊥) → stage_one lower (suc n) bs es ≡ record { buyer = b; elevator = e; lots = amount } ∷ stage_one lower n (set bs b (has - amount)) (set es e (stands - amount))
    turn_pair n some =
        rw (same_amount, turn.of_buyer, turn.of_elevator, turn.buyer, turn.elevator) (one_turn bs es n false (ne_eqb (both bs es (fullest_buyer lower bs)) 0 (λ z. some (same_amount ∙ z))))

    turn_none : (n : ℕ) → amount ≡ 0 → stage_one lower (suc n) bs es ≡ []
    turn_none n none = one_turn bs es n true (eq-eqb (both bs es (fullest_buyer lower bs)) 0 (sym same_amount ∙ none))

    -- where something is paired, buyer and elevator have a place
    module _ (some : amount ≡ 0 → ⊥) where
      pub buyer_place : b < length bs
      buyer_place = entry_place bs b (omega (arith, some, turn.smaller, turn.of_buyer))

      pub elevator_place : e < length es
      elevator_place = entry_place es e (omega (arith, some, turn.smaller, turn.of_elevator))

  -- the loop
  module _ (turns places : ℕ) (all : List Pair) where
    pub record Pairing (bs es : List ℕ) (ps : Pairs) : Type 0 where
      pub within : ps.count ≤ turns
      pub buyers_long : length bs ≡ places
      pub stocks_long : length es ≡ 32
      pub whole : pairs_in ps ++ stage_one lower (turns - ps.count) bs es ≡ all

    pub pairing_start : (bs es : List ℕ) (ps : Pairs) → pairs_in ps ≡ [] → length bs ≡ places → length es ≡ 32 → stage_one lower turns bs es ≡ all → Pairing bs es ps
    pairing_start bs es ps none long long' whole =
        let count : ps.count ≡ 0 = sym (pairs_count ps) ∙ ap length none in
        record {
          within = omega (arith, count);
          buyers_long = long;
          stocks_long = long';
          whole = ap (λ (qs : List Pair). qs ++ stage_one lower (turns - ps.count) bs es) none ∙ ap (λ (n : ℕ). stage_one lower n bs es) (omega (arith, count)) ∙ whole;
        }

    module _ {bs es : List ℕ} {ps : Pairs} (p : Pairing bs es ps) where
      -- nothing is left
      pairing_over : stage_one lower (turns - ps.count) bs es ≡ [] → pairs_in ps ≡ all
      pairing_over over = sym (append-nil (pairs_in ps)) ∙ ap (λ (qs : List Pair). pairs_in ps ++ qs) (sym over) ∙ p.whole

      -- all turns are taken
      pub pairing_end : turns ≤ ps.count → pairs_in ps ≡ all
      pairing_end all-taken = pairing_over (ap (λ (n : ℕ). stage_one lower n bs es) (omega (arith, all-taken)) ∙ no_turn bs es)

      module _ {b e has stands amount : ℕ} (turn : Turn lower bs es b e has stands amount) (below : ps.count < turns) where
        rest : turns - ps.count ≡ suc (turns - (ps.count + 1))
        rest = omega (arith, below)

        -- there is nothing to pair
        pub pairing_stop : amount ≡ 0 → pairs_in ps ≡ all
        pairing_stop none = pairing_over (ap (λ (n : ℕ). stage_one lower n bs es) rest ∙ turn_none turn (turns - (ps.count + 1)) none)

        -- one pair more
        pub pairing_next : (amount ≡ 0 → ⊥) → (qs : Pairs) → pairs_in qs ≡ pairs_in ps ++ (record { buyer = b; elevator = e; lots = amount } ∷ []) → Pairing (set bs b (has - amount)) (set es e (stands - amount)) qs
        pairing_next some qs more =
            let left : ℕ → List Pair = λ (n : ℕ). stage_one lower n (set bs b (has - amount)) (set es e (stands - amount)) in
            let count = one_more_pair ps qs _ more in
            record {
              within = omega (arith, count, below);
              buyers_long = length-set bs b (has - amount) ∙ p.buyers_long;
              stocks_long = length-set es e (stands - amount) ∙ p.stocks_long;
              whole =
                  ap (λ (n : ℕ). pairs_in qs ++ left (turns - n)) count
                  ∙ ap (λ (xs : List Pair). xs ++ left (turns - (ps.count + 1))) more
                  ∙ append_assoc (pairs_in ps) _ _
                  ∙ ap (λ (xs : List Pair). pairs_in ps ++ xs) (sym (ap (λ (n : ℕ). stage_one lower n bs es) rest ∙ turn_pair turn (turns - (ps.count + 1)) some))
                  ∙ p.whole;
            }
