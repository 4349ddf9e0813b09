-- Stage two, as its loop goes: the lines formed, and those that stage two forms of what is left, are all lines.
use Rattle.numbers.proofs.Words.{ℕ, zero, suc, ◌+◌, ◌-◌, ◌≤◌, ◌<◌, min, arith, ◌≡◌, refl, sym, ap, ap₂, ◌∙◌, Bool, true, false, cond, ◌||◌, ⊎_elim, List, [], ◌∷◌, ◌++◌, map, append_assoc, append-nil, eqb, length, set, length-append, length-map, length-set, eq-eqb, ne_eqb, eqb-true, eqb-false, entry}
use Rattle.numbers.proofs.Ranges.{get_d_past}
use Rattle.numbers.proofs.Entries.{off_entry}
use Rattle.numbers.proofs.Orders.{largest_place}
use Rattle.numbers.proofs.Tests.{or_cases, or_left, or_right}
use Rattle.rules.specs.Expiry.Passes.{Pair, Line, pair_of, offers, earlier_pair, fullest_pair, fullest_notice, stage_two}
use Rattle.method_passes.specs.declared.{pairs.Pairs.Pairs, register.Register.Register, stage_two.Choice.Choice}
use Rattle.method_passes.specs.Formed.{pairs_in, pair_left, lines_in, next_choice, lines_from, Known, Sold}
use Rattle.method_passes.proofs.Arrays.{pairs_count, pair_at, left_length, known_left, lines_count}
use Rattle.method_passes.proofs.Offered.{offers_length, offer_within}

-- where there are pairs and notices
pub some_there : (n m k : ℕ) → k ≡ n → (eqb n 0 || eqb m 0) ≡ false → (0 < k) × (0 < m)
some_there n m k e test = (omega (arith, e, eqb-false n 0 (or_left (eqb n 0) (eqb m 0) test)), omega (arith, eqb-false m 0 (or_right (eqb n 0) (eqb m 0) test)))

-- some is taken of a notice
sold_left : (sellers stands drawn : List ℕ) (sections k some : ℕ) → some ≤ entry drawn k → Sold sellers stands drawn sections → Sold sellers stands (set drawn k (entry drawn k - some)) sections
sold_left sellers stands drawn sections k some within s =
    record {
      notices = record {
        few = s.notices.few;
        long = length-set drawn k (entry drawn k - some) ∙ s.notices.long;
        standing = s.notices.standing;
        small = λ i. omega (arith, off_entry drawn k some within i, s.notices.small i);
      };
      long = s.long;
      seller = s.seller;
    }

module _ (lower : ℕ → ℕ → Bool) where
  -- the places of the fullest pair and of the fullest notice
  pair_place : (ps : List Pair) → 0 < length ps → fullest_pair lower ps < length ps
  pair_place ps some =
      let long = length-map ps (λ (q : Pair). q.lots) in
      omega (arith, long, largest_place (λ (i j : ℕ). earlier_pair lower (pair_of ps i) (pair_of ps j)) (map (λ (q : Pair). q.lots) ps) (omega (arith, some, long)))

  pub pair_there : (ps : Pairs) → 0 < ps.count → (p : ℕ) → p ≡ fullest_pair lower (pairs_in ps) → p < ps.count
  pair_there ps some p e = omega (arith, e, pairs_count ps, pair_place (pairs_in ps) (omega (arith, some, pairs_count ps)))

  module _ (sellers stands : List ℕ) where
    pub notice_place : (drawn : List ℕ) (e : ℕ) → 0 < length stands → fullest_notice lower sellers stands drawn e < length stands
    notice_place drawn e some =
        let long = offers_length stands drawn e in
        omega (arith, long, largest_place (λ (i j : ℕ). lower (entry sellers i) (entry sellers j)) (offers stands drawn e) (omega (arith, some, long)))

    -- the turn that the definition takes
    module _ (ps : List Pair) (drawn : List ℕ) where
      abbrev pub next : Choice
      next = next_choice lower sellers stands ps drawn

      abbrev pub and_so_on : Choice → ℕ → List Line
      and_so_on r n =
          record { buyer = (pair_of ps r.pair).buyer; elevator = (pair_of ps r.pair).elevator; seller = entry sellers r.notice; lots = r.lots }
          ∷ stage_two lower sellers stands n (pair_left ps r.pair ((pair_of ps r.pair).lots - r.lots)) (set drawn r.notice (entry drawn r.notice - r.lots))

      pub one_turn : (n : ℕ) (t : Bool) → eqb next.lots 0 ≡ t → stage_two lower sellers stands (suc n) ps drawn ≡ cond t [] (and_so_on next n)
      unfolding stage_two
      one_turn n t e = go (eqb next.lots 0) ∙ ap (λ (u : Bool). cond u [] (and_so_on next n)) e
        where
          go : (u : Bool) → elim u [ true ↦ [] | false ↦ and_so_on next n ] ≡ cond u [] (and_so_on next n)
          go true = refl
          go false = refl

      -- with nothing to take there is no line
      pub nothing_lined : next.lots ≡ 0 → (n : ℕ) → stage_two lower sellers stands n ps drawn ≡ []
      unfolding stage_two
      nothing_lined e zero = refl
      nothing_lined e (suc n) = one_turn n true (eq-eqb next.lots 0 e)

      pub no_turn : stage_two lower sellers stands 0 ps drawn ≡ []
      unfolding stage_two
      no_turn = refl

      pub no_pair_lem : length ps ≡ 0 → next.lots ≡ 0
      no_pair_lem e = omega (arith, ap (λ (q : Pair). q.lots) (get_d_past ps next.pair (record { buyer = 0; elevator = 0; lots = 0 }) (omega (arith, e))))

      no_notice : length stands ≡ 0 → next.lots ≡ 0
      no_notice e =
          let at = (pair_of ps next.pair).elevator in
          omega (arith, get_d_past (offers stands drawn at) next.notice 0 (omega (arith, e, offers_length stands drawn at)))

    -- with no pair or no notice there is no line
    pub no_lines : (ps : Pairs) (drawn : List ℕ) → (eqb ps.count 0 || eqb (length stands) 0) ≡ true → lines_from lower sellers stands (pairs_in ps) drawn ≡ []
    no_lines ps drawn test =
        nothing_lined (pairs_in ps) drawn
        (⊎_elim
        (λ e. no_pair_lem (pairs_in ps) drawn (pairs_count ps ∙ eqb-true ps.count 0 e))
        (λ e. no_notice (pairs_in ps) drawn (eqb-true (length stands) 0 e))
        (or_cases (eqb ps.count 0) (eqb (length stands) 0) test))
        (length (pairs_in ps) + length stands)

    module _ (ps : Pairs) (drawn : List ℕ) where
      -- what is chosen in parts
      pub choice_made : (p k offered lots : ℕ) → p < ps.count → p ≡ fullest_pair lower (pairs_in ps) → k ≡ fullest_notice lower sellers stands drawn (entry ps.elevators p)
          → offered ≡ entry (offers stands drawn (entry ps.elevators p)) k → lots ≡ min (entry ps.lots p) offered → record { pair = p; notice = k; lots = lots } ≡ next_choice lower sellers stands (pairs_in ps) drawn
      choice_made p k offered lots below ep ek eo el =
          let at = sym (pair_at ps p below) in
          let ek' = ek ∙ ap (λ (q : Pair). fullest_notice lower sellers stands drawn q.elevator) at in
          let el' = el ∙ ap₂ min (ap (λ (q : Pair). q.lots) at) (eo ∙ ap (λ (q : Pair). entry (offers stands drawn q.elevator) k) at) in
          rw (el', ek', ep)

      -- a turn: what is chosen has its places, and is no more than there is
      pub record Taken (r : Choice) : Type 0 where
        pub chosen : r ≡ next_choice lower sellers stands (pairs_in ps) drawn
        pub pair : r.pair < ps.count
        pub notice : r.notice < length stands
        pub of_pair : r.lots ≤ entry ps.lots r.pair
        pub of_notice : r.lots ≤ entry drawn r.notice

      pub taken : 0 < ps.count → 0 < length stands → (r : Choice) → r ≡ next_choice lower sellers stands (pairs_in ps) drawn → Taken r
      taken some filed r e =
          let place = pair_there ps some r.pair (ap (λ (x : Choice). x.pair) e) in
          let at = (pair_of (pairs_in ps) (next (pairs_in ps) drawn).pair).elevator in
          record {
            chosen = e;
            pair = place;
            notice = omega (arith, ap (λ (x : Choice). x.notice) e, notice_place drawn at filed);
            of_pair = omega (
              arith,
              ap (λ (x : Choice). x.lots) e,
              ap (λ (x : Choice). (pair_of (pairs_in ps) x.pair).lots) e,
              ap (λ (q : Pair). q.lots) (pair_at ps r.pair place),
            );
            of_notice = omega (arith, ap (λ (x : Choice). x.lots) e, ap (λ (x : Choice). entry drawn x.notice) e, offer_within stands drawn at (next (pairs_in ps) drawn).notice);
          }

    -- the loop
    module _ (sections turns count : ℕ) (all : List Line) where
      pub record Lining (drawn : List ℕ) (ps : Pairs) (g : Register) (turn : ℕ) : Type 0 where
        pub within : turn ≤ turns
        pub same_count : ps.count ≡ count
        pub known : Known (pairs_in ps) sections
        pub sold : Sold sellers stands drawn sections
        pub whole : lines_in g ++ stage_two lower sellers stands (turns - turn) (pairs_in ps) drawn ≡ all

      pub lining_start : (drawn : List ℕ) (ps : Pairs) (g : Register) → turns ≡ ps.count + length stands → ps.count ≡ count → Known (pairs_in ps) sections → Sold sellers stands drawn sections
          → lines_in g ++ lines_from lower sellers stands (pairs_in ps) drawn ≡ all → Lining drawn ps g 0
      lining_start drawn ps g enough same known sold whole =
          record {
            within = omega arith;
            same_count = same;
            known = known;
            sold = sold;
            whole = ap (λ (n : ℕ). lines_in g ++ stage_two lower sellers stands n (pairs_in ps) drawn) (omega (arith, enough, pairs_count ps)) ∙ whole;
          }

      module _ {drawn : List ℕ} {ps : Pairs} {g : Register} {turn : ℕ} (l : Lining drawn ps g turn) where
        -- nothing is left
        lining_over : stage_two lower sellers stands (turns - turn) (pairs_in ps) drawn ≡ [] → lines_in g ≡ all
        lining_over over = sym (append-nil (lines_in g)) ∙ ap (λ (ls : List Line). lines_in g ++ ls) (sym over) ∙ l.whole

        -- all turns are taken
        pub lining_end : turns ≤ turn → lines_in g ≡ all
        lining_end all-taken = lining_over (ap (λ (n : ℕ). stage_two lower sellers stands n (pairs_in ps) drawn) (omega (arith, all-taken)) ∙ no_turn (pairs_in ps) drawn)

        module _ {r : Choice} (t : Taken ps drawn r) where
          -- there is nothing to take
          pub lining_stop : r.lots ≡ 0 → lines_in g ≡ all
          lining_stop none = lining_over (nothing_lined (pairs_in ps) drawn (sym (ap (λ (x : Choice). x.lots) t.chosen) ∙ none) (turns - turn))

          module _ (below : turn < turns) (some : r.lots ≡ 0 → ⊥) where
            abbrev line : Line
            line = record { buyer = entry ps.buyers r.pair; elevator = entry ps.elevators r.pair; seller = entry sellers r.notice; lots = r.lots }

            abbrev left : List Pair → List Line
            left qs = stage_two lower sellers stands (turns - (turn + 1)) qs (set drawn r.notice (entry drawn r.notice - r.lots))

            abbrev less : List Pair
            less = pair_left (pairs_in ps) r.pair (entry ps.lots r.pair - r.lots)

            now_left : lines_in g ++ (line ∷ left less) ≡ all
            now_left =
                let n = turns - (turn + 1) in
                let rest : turns - turn ≡ suc n = omega (arith, below) in
                ap (λ (ls : List Line). lines_in g ++ ls)
                (sym
                (ap (λ (m : ℕ). stage_two lower sellers stands m (pairs_in ps) drawn) rest
                ∙ one_turn (pairs_in ps) drawn n false (ne_eqb (next (pairs_in ps) drawn).lots 0 (λ z. some (ap (λ (x : Choice). x.lots) t.chosen ∙ z)))
                ∙ ap (λ (x : Choice). and_so_on (pairs_in ps) drawn x n) (sym t.chosen)
                ∙ ap (λ (q : Pair). record { buyer = q.buyer; elevator = q.elevator; seller = entry sellers r.notice; lots = r.lots } ∷ left (pair_left (pairs_in ps) r.pair (q.lots - r.lots))) (pair_at ps r.pair t.pair)))
                ∙ l.whole

            -- so the register has a place for its line
            pub lining_room : g.count < length all
            lining_room = omega (arith, ap length now_left, length-append (lines_in g) (line ∷ left less), lines_count g)

            -- one line more
            pub lining_next : (qs : Pairs) (h : Register) → pairs_in qs ≡ pair_left (pairs_in ps) r.pair (entry ps.lots r.pair - r.lots)
                → lines_in h ≡ lines_in g ++ (record { buyer = entry ps.buyers r.pair; elevator = entry ps.elevators r.pair; seller = entry sellers r.notice; lots = r.lots } ∷ [])
                → Lining (set drawn r.notice (entry drawn r.notice - r.lots)) qs h (turn + 1)
            lining_next qs h fewer more =
                record {
                  within = omega (arith, below);
                  same_count = sym (pairs_count qs) ∙ ap length fewer ∙ left_length (pairs_in ps) r.pair _ ∙ pairs_count ps ∙ l.same_count;
                  known = rw fewer (known_left (pairs_in ps) r.pair (entry ps.lots r.pair - r.lots) sections l.known);
                  sold = sold_left sellers stands drawn sections r.notice r.lots t.of_notice l.sold;
                  whole =
                      ap₂ (λ (ls : List Line) (xs : List Pair). ls ++ left xs) more fewer
                      ∙ append_assoc (lines_in g) (line ∷ []) (left less)
                      ∙ now_left;
                }
