-- Stage two: the lines that a pass forms.
use Rattle.numbers.proofs.Words.{ℕ, zero, suc, ◌+◌, ◌-◌, ◌≤◌, ◌<◌, min, arith, ◌≡◌, refl, sym, ap, ap₂, ◌∙◌, Bool, true, false, cond, List, [], ◌∷◌, map, ◌⊎◌, inl, inr, ⊎_elim, eqb, length, set, length-set, length-map, get_or-map, get_or-set_same, eqb-true, eqb-false, entry, listed, gathered, total}
use Rattle.numbers.proofs.Ranges.{listed_at, listed-length, chosen_yes, chosen_no, sum_nothing, sum_changed, sum_part, sum_empty, total_part, total_nothing}
use Rattle.numbers.proofs.Entries.{entry_place, none_total}
use Rattle.numbers.proofs.Counts.{one_above, live, live_empty, live_nothing, live_apart, live_set, live_off}
use Rattle.numbers.proofs.Orders.{largest_most, largest_none}
use Rattle.numbers.proofs.Sums.{naturals, total_read_set}
use Rattle.numbers.proofs.Tests.{below_or_not}
use Rattle.numbers.proofs.Under.{under_none, under_sum, above_read}
use Rattle.rules.specs.Book.{elevators}
use Rattle.rules.specs.Expiry.Passes.{Pair, Line, with_lots, pair_of, offers, earlier_pair, fullest_pair, fullest_notice, stage_two}
use Rattle.method_laws.proofs.StageOne.{pair_lots}

-- the lots of the lines that pass a test
abbrev pub line_lots : (Line → Bool) → List Line → ℕ
line_lots test ls = total (map (λ (l : Line). cond (test l) l.lots 0) ls)

-- how many pairs have lots, and at how many elevators notices have
abbrev pub live_pairs : List Pair → ℕ
live_pairs ps = live (length ps) (λ (p : ℕ). (pair_of ps p).lots)

abbrev pub live_elevators : List ℕ → List ℕ → ℕ
live_elevators stands drawn = live elevators (λ (e : ℕ). total (offers stands drawn e))

-- what the lines of pairs and of what is drawn of the notices come to: all lots get a line, each line ends a pair or a notice, and the last at an elevator both
pub record Lined (sellers stands : List ℕ) (ps : List Pair) (drawn : List ℕ) (ls : List Line) : Type 0 where
  pub by_buyer : (b : ℕ) → line_lots (λ (l : Line). eqb l.buyer b) ls ≡ pair_lots (λ (p : Pair). eqb p.buyer b) ps
  pub by_notice : (test : ℕ → ℕ → Bool) → line_lots (λ (l : Line). test l.seller l.elevator) ls ≡ total (listed (length stands) (λ (k : ℕ). cond (test (entry sellers k) (entry stands k)) (entry drawn k) 0))
  pub few : length ls + live_elevators stands drawn ≤ live_pairs ps + live (length stands) (entry drawn)

-- One turn

abbrev no_pair : Pair
no_pair = record { buyer = 0; elevator = 0; lots = 0 }

-- what is left of a pair, of the pairs and of what is drawn when an amount is taken off a pair and off a notice
abbrev pair_less : Pair → ℕ → Pair
pair_less q amount = with_lots q (q.lots - amount)

abbrev pairs_left : List Pair → ℕ → ℕ → List Pair
pairs_left ps p amount = set ps p (pair_less (pair_of ps p) amount)

abbrev drawn_left : List ℕ → ℕ → ℕ → List ℕ
drawn_left drawn k amount = set drawn k (entry drawn k - amount)

-- the lots of the pairs whose buyer and elevator pass a test, and what is drawn of the notices whose number does
abbrev lots_by : (ℕ → ℕ → Bool) → List Pair → ℕ
lots_by test = pair_lots (λ (q : Pair). test q.buyer q.elevator)

abbrev drawn_by : List ℕ → (ℕ → Bool) → List ℕ → ℕ
drawn_by stands test drawn = total (listed (length stands) (λ (j : ℕ). cond (test j) (entry drawn j) 0))

-- what is drawn of a notice at an elevator
abbrev offer : List ℕ → List ℕ → ℕ → ℕ → ℕ
offer stands drawn e j = cond (eqb (entry stands j) e) (entry drawn j) 0

-- the pairs' lots at each elevator are what is drawn there
abbrev Even : List ℕ → List Pair → List ℕ → Type 0
Even stands ps drawn = (e : ℕ) → pair_lots (λ (q : Pair). eqb q.elevator e) ps ≡ total (offers stands drawn e)

-- a pair and a notice at its elevator, and the smaller of what they have
record Turn (stands : List ℕ) (ps : List Pair) (drawn : List ℕ) (p k amount : ℕ) : Type 0 where
  long : length drawn ≡ length stands
  pair_place : p < length ps
  notice_place : k < length stands
  elevator_place : entry stands k < elevators
  there : entry stands k ≡ (pair_of ps p).elevator
  even : Even stands ps drawn
  above : 0 < amount
  of_pair : amount ≤ (pair_of ps p).lots
  of_notice : amount ≤ entry drawn k
  ends : (amount ≡ (pair_of ps p).lots) ⊎ (amount ≡ entry drawn k)

module _ {stands : List ℕ} {ps : List Pair} {drawn : List ℕ} {p k amount : ℕ} (turn : Turn stands ps drawn p k amount) where
  -- the amount is taken off the pairs' lots and off the notices'
  pairs_fall : (test : ℕ → ℕ → Bool) → cond (test (pair_of ps p).buyer (pair_of ps p).elevator) amount 0 + lots_by test (pairs_left ps p amount) ≡ lots_by test ps
  pairs_fall test =
      let f : Pair → ℕ = λ (q : Pair). cond (test q.buyer q.elevator) q.lots 0 in
      omega (
        arith,
        total_read_set ◌+◌ 0 naturals f ps p (pair_less (pair_of ps p) amount) no_pair turn.pair_place,
        under_sum (test (pair_of ps p).buyer (pair_of ps p).elevator) amount ((pair_of ps p).lots - amount) (pair_of ps p).lots (omega (arith, turn.of_pair)),
      )

  drawn_falls : (test : ℕ → Bool) → cond (test k) amount 0 + drawn_by stands test (drawn_left drawn k amount) ≡ drawn_by stands test drawn
  drawn_falls test =
      omega (
        arith,
        sum_changed ◌+◌ 0 naturals (λ (j v : ℕ). cond (test j) v 0) drawn 0 k (entry drawn k - amount) (length stands) turn.notice_place (omega (arith, turn.long)),
        under_sum (test k) amount (entry drawn k - amount) (entry drawn k) (omega (arith, turn.of_notice)),
      )

  even_left : Even stands (pairs_left ps p amount) (drawn_left drawn k amount)
  even_left e =
      omega (
        arith,
        turn.even e,
        pairs_fall (λ (b f : ℕ). eqb f e),
        drawn_falls (λ (j : ℕ). eqb (entry stands j) e),
        ap (λ (f : ℕ). cond (eqb f e) amount 0) turn.there,
      )

  long_left : length (drawn_left drawn k amount) ≡ length stands
  long_left = length-set drawn k (entry drawn k - amount) ∙ turn.long

  -- what is left at the elevator of the pair and the notice: no less than what is left of the one, or of the other
  left_there : ℕ
  left_there = total (offers stands (drawn_left drawn k amount) (pair_of ps p).elevator)

  pair_there : (pair_of ps p).lots - amount ≤ left_there
  unfolding left_there
  pair_there =
      let e = (pair_of ps p).elevator in
      let new = pair_less (pair_of ps p) amount in
      let f : Pair → ℕ = λ (q : Pair). cond (eqb q.elevator e) q.lots 0 in
      omega (
        arith,
        total_part f no_pair (pairs_left ps p amount) p (omega (arith, turn.pair_place, length-set ps p new)),
        ap f (get_or-set_same ps p new no_pair turn.pair_place),
        chosen_yes e e ((pair_of ps p).lots - amount) 0 refl,
        even_left e,
      )

  notice_there : entry drawn k - amount ≤ left_there
  unfolding left_there
  notice_there =
      let e = (pair_of ps p).elevator in
      omega (
        arith,
        sum_part (length stands) (offer stands (drawn_left drawn k amount) e) k turn.notice_place,
        chosen_yes (entry stands k) e (entry (drawn_left drawn k amount) k) 0 turn.there,
        get_or-set_same drawn k (entry drawn k - amount) 0 (omega (arith, turn.long, turn.notice_place)),
      )

  -- the pair ends or the notice does, and where the other goes on, so does their elevator
  one_ends : min ((pair_of ps p).lots - amount) 1 + min (entry drawn k - amount) 1 ≤ min left_there 1
  one_ends =
      ⊎_elim (λ (h : amount ≡ (pair_of ps p).lots). omega (arith, h, notice_there)) (λ (h : amount ≡ entry drawn k). omega (arith, h, pair_there)) turn.ends

  -- how many pairs, notices and elevators go on
  pairs_live : live_pairs (pairs_left ps p amount) + 1 ≡ live_pairs ps + min ((pair_of ps p).lots - amount) 1
  pairs_live =
      let new = pair_less (pair_of ps p) amount in
      omega (
        arith,
        ap (λ (n : ℕ). live n (λ (i : ℕ). (pair_of (pairs_left ps p amount) i).lots)) (length-set ps p new),
        live_set (λ (q : Pair). q.lots) ps no_pair p new (length ps) turn.pair_place (omega arith),
        one_above (pair_of ps p).lots,
        one_above ((pair_of ps p).lots - amount),
        turn.above,
        turn.of_pair,
      )

  drawn_live : live (length stands) (entry (drawn_left drawn k amount)) + 1 ≡ live (length stands) (entry drawn) + min (entry drawn k - amount) 1
  drawn_live =
      omega (
        arith,
        live_off drawn k amount turn.above turn.of_notice,
        ap (λ (n : ℕ). live n (entry (drawn_left drawn k amount))) long_left,
        ap (λ (n : ℕ). live n (entry drawn)) turn.long,
      )

  elevators_live : live_elevators stands (drawn_left drawn k amount) + 1 ≡ live_elevators stands drawn + min left_there 1
  unfolding left_there
  elevators_live =
      let e = (pair_of ps p).elevator in
      let left = drawn_left drawn k amount in
      let falls : (f : ℕ) → cond (eqb (entry stands k) f) amount 0 + total (offers stands left f) ≡ total (offers stands drawn f) = λ f. drawn_falls (λ (j : ℕ). eqb (entry stands j) f) in
      omega (
        arith,
        live_apart elevators (λ (f : ℕ). total (offers stands drawn f)) (λ (f : ℕ). total (offers stands left f)) e (omega (arith, turn.elevator_place, turn.there))
            (λ f l other. omega (arith, falls f, chosen_no (entry stands k) f amount 0 (λ s. other (sym s ∙ turn.there)))),
        one_above (total (offers stands drawn e)),
        one_above (total (offers stands left e)),
        turn.above,
        falls e,
        chosen_yes (entry stands k) e amount 0 turn.there,
      )

  -- so the turns that are left are enough
  enough_left : (turns : ℕ) → live_pairs ps + live (length stands) (entry drawn) ≤ suc turns → live_pairs (pairs_left ps p amount) + live (length stands) (entry (drawn_left drawn k amount)) ≤ turns
  enough_left turns enough = omega (arith, enough, one_ends, pairs_live, drawn_live)

  -- the turn's line, before the lines of what is left
  line_more : (sellers : List ℕ) (ls : List Line) → Lined sellers stands (pairs_left ps p amount) (drawn_left drawn k amount) ls
      → Lined sellers stands ps drawn (record { buyer = (pair_of ps p).buyer; elevator = (pair_of ps p).elevator; seller = entry sellers k; lots = amount } ∷ ls)
  unfolding gathered
  line_more sellers ls rest =
      record {
        by_buyer = λ b. ap (λ (n : ℕ). cond (eqb (pair_of ps p).buyer b) amount 0 + n) (rest.by_buyer b) ∙ pairs_fall (λ (c e : ℕ). eqb c b);
        by_notice = λ test.
            ap₂ (λ (e n : ℕ). cond (test (entry sellers k) e) amount 0 + n) (sym turn.there) (rest.by_notice test)
            ∙ drawn_falls (λ (j : ℕ). test (entry sellers j) (entry stands j));
        few = omega (arith, rest.few, one_ends, pairs_live, drawn_live, elevators_live);
      }

-- where nothing is left nothing is read, and there is no line
pairs_none : (test : Pair → Bool) (ps : List Pair) → ((p : ℕ) → p < length ps → (pair_of ps p).lots ≡ 0) → pair_lots test ps ≡ 0
pairs_none test ps none = total_nothing (λ (q : Pair). cond (test q) q.lots 0) no_pair ps (λ p h. under_none (test (pair_of ps p)) (pair_of ps p).lots (λ e. none p h))

lined_none : (sellers stands : List ℕ) (ps : List Pair) (drawn : List ℕ)
    → ((p : ℕ) → p < length ps → (pair_of ps p).lots ≡ 0) → ((k : ℕ) → k < length stands → entry drawn k ≡ 0) → Lined sellers stands ps drawn []
unfolding gathered
lined_none sellers stands ps drawn no_pair_lem no_notice =
    record {
      by_buyer = λ b. sym (pairs_none (λ (q : Pair). eqb q.buyer b) ps no_pair_lem);
      by_notice = λ test. sym (nothing (λ (k : ℕ). test (entry sellers k) (entry stands k)));
      few = omega (arith, live_nothing elevators (λ (e : ℕ). total (offers stands drawn e)) (λ e h. nothing (λ (k : ℕ). eqb (entry stands k) e)));
    }
  where
    nothing : (test : ℕ → Bool) → drawn_by stands test drawn ≡ 0
    nothing test = sum_nothing ◌+◌ 0 naturals (length stands) (λ (k : ℕ). cond (test k) (entry drawn k) 0) (λ k h. under_none (test k) (entry drawn k) (λ e. no_notice k h))

-- The pair and the notice that a turn takes
module _ (lower : ℕ → ℕ → Bool) (sellers stands : List ℕ) (ps : List Pair) (drawn : List ℕ) where
  abbrev taken_pair : ℕ
  taken_pair = fullest_pair lower ps

  abbrev taken_at : ℕ
  taken_at = (pair_of ps taken_pair).elevator

  abbrev taken_notice : ℕ
  taken_notice = fullest_notice lower sellers stands drawn taken_at

  abbrev taken : ℕ
  taken = min (pair_of ps taken_pair).lots (entry (offers stands drawn taken_at) taken_notice)

  abbrev left_pairs : List Pair
  left_pairs = pairs_left ps taken_pair taken

  abbrev left_drawn : List ℕ
  left_drawn = drawn_left drawn taken_notice taken

  -- the pair has most lots
  pair_most : (p : ℕ) → p < length ps → (pair_of ps p).lots ≤ (pair_of ps taken_pair).lots
  pair_most p h =
      let lots : Pair → ℕ = λ (q : Pair). q.lots in
      omega (
        arith,
        largest_most (λ (i j : ℕ). earlier_pair lower (pair_of ps i) (pair_of ps j)) (map lots ps) p (omega (arith, h, length-map ps lots)),
        get_or-map lots ps p no_pair,
        get_or-map lots ps taken_pair no_pair,
      )

  -- a pair with lots has a place
  pair_held : 0 < (pair_of ps taken_pair).lots → taken_pair < length ps
  pair_held h =
      let lots : Pair → ℕ = λ (q : Pair). q.lots in
      omega (arith, length-map ps lots, entry_place (map lots ps) taken_pair (omega (arith, h, get_or-map lots ps taken_pair no_pair)))

  -- a notice with lots to offer has a place and stands at the pair's elevator, and offers all that is drawn of it
  notice_held : 0 < entry (offers stands drawn taken_at) taken_notice → taken_notice < length stands
  notice_held h = omega (arith, entry_place (offers stands drawn taken_at) taken_notice h, listed-length (length stands) (offer stands drawn taken_at))

  notice_at_lem : 0 < entry (offers stands drawn taken_at) taken_notice → entry stands taken_notice ≡ taken_at
  notice_at_lem h =
      let there = eqb (entry stands taken_notice) taken_at in
      let read = listed_at (length stands) (offer stands drawn taken_at) taken_notice 0 (notice_held h) in
      eqb-true (entry stands taken_notice) taken_at (above_read there (entry drawn taken_notice) (omega (arith, h, read))).0

  notice_drawn : 0 < entry (offers stands drawn taken_at) taken_notice → entry (offers stands drawn taken_at) taken_notice ≡ entry drawn taken_notice
  notice_drawn h =
      listed_at (length stands) (offer stands drawn taken_at) taken_notice 0 (notice_held h)
      ∙ chosen_yes (entry stands taken_notice) taken_at (entry drawn taken_notice) 0 (notice_at_lem h)

  module _ (even : Even stands ps drawn) where
    -- while a pair has lots, so has a notice at its elevator
    notice_offered : 0 < (pair_of ps taken_pair).lots → 0 < entry (offers stands drawn taken_at) taken_notice
    notice_offered h =
        let at = offers stands drawn taken_at in
        let f : Pair → ℕ = λ (q : Pair). cond (eqb q.elevator taken_at) q.lots 0 in
        ⊎_elim (λ (l : 0 < entry at taken_notice). l)
        (λ (l : entry at taken_notice ≤ 0).
        absurd
        (omega (
          arith,
          h,
          total_part f no_pair ps taken_pair (pair_held h),
          chosen_yes taken_at taken_at (pair_of ps taken_pair).lots 0 refl,
          even taken_at,
          none_total at (λ i b. largest_none (λ (i j : ℕ). lower (entry sellers i) (entry sellers j)) at (omega (arith, l)) i),
        )))
        (below_or_not 0 (entry at taken_notice))

    -- so where nothing is taken, nothing is left
    none_taken : taken ≡ 0 → Lined sellers stands ps drawn []
    none_taken e =
        let pair = (pair_of ps taken_pair).lots in
        let spent = ⊎_elim (λ (h : 0 < pair). absurd {A = pair ≤ 0} (omega (arith, e, h, notice_offered h))) (λ h. h) (below_or_not 0 pair) in
        let no_pair_lem : (p : ℕ) → p < length ps → (pair_of ps p).lots ≡ 0 = λ p h. omega (arith, pair_most p h, spent) in
        let no_notice : (k : ℕ) → k < length stands → entry drawn k ≡ 0 =
        λ k h.
        let at = entry stands k in
        let nowhere = sum_empty (length stands) (offer stands drawn at) (sym (even at) ∙ pairs_none (λ (q : Pair). eqb q.elevator at) ps no_pair_lem) k h in
        omega (arith, nowhere, chosen_yes at at (entry drawn k) 0 refl)
        in
        lined_none sellers stands ps drawn no_pair_lem no_notice

    -- where something is taken, it is of a pair and of a notice at its elevator
    some_taken : length drawn ≡ length stands → ((k : ℕ) → k < length stands → entry stands k < elevators) → (taken ≡ 0 → ⊥) → Turn stands ps drawn taken_pair taken_notice taken
    some_taken long standing some =
        let pair = (pair_of ps taken_pair).lots in
        let offered = entry (offers stands drawn taken_at) taken_notice in
        let here : 0 < offered = omega (arith, some) in
        record {
          long = long;
          pair_place = pair_held (omega (arith, some));
          notice_place = notice_held here;
          elevator_place = standing taken_notice (notice_held here);
          there = notice_at_lem here;
          even = even;
          above = omega (arith, some);
          of_pair = omega arith;
          of_notice = omega (arith, notice_drawn here);
          ends = ⊎_elim (λ (h : pair < offered). inl (omega (arith, h))) (λ (h : offered ≤ pair). inr (omega (arith, h, notice_drawn here))) (below_or_not pair offered);
        }

    -- so a turn stops with nothing left, or has its line before the lines of what is left
    one_turn : length drawn ≡ length stands → ((k : ℕ) → k < length stands → entry stands k < elevators) → (rest : List Line)
        → (Turn stands ps drawn taken_pair taken_notice taken → Lined sellers stands left_pairs left_drawn rest) → (t : Bool) → eqb taken 0 ≡ t
        → Lined sellers stands ps drawn (elim t [
          | true ↦ []
          | false ↦ record { buyer = (pair_of ps taken_pair).buyer; elevator = taken_at; seller = entry sellers taken_notice; lots = taken } ∷ rest
        ])
    one_turn long standing rest next true e = none_taken (eqb-true taken 0 e)
    one_turn long standing rest next false e =
        let turn = some_taken long standing (eqb-false taken 0 e) in
        line_more turn sellers rest (next turn)

-- the lines of stage two, with turns enough for all pairs and notices that have lots
pub lined : (lower : ℕ → ℕ → Bool) (sellers stands : List ℕ) (turns : ℕ) (ps : List Pair) (drawn : List ℕ) → length drawn ≡ length stands → ((k : ℕ) → k < length stands → entry stands k < elevators)
    → ((e : ℕ) → pair_lots (λ (p : Pair). eqb p.elevator e) ps ≡ total (offers stands drawn e)) → live_pairs ps + live (length stands) (entry drawn) ≤ turns
    → Lined sellers stands ps drawn (stage_two lower sellers stands turns ps drawn)
unfolding stage_two
lined lower sellers stands zero ps drawn long standing even enough =
    lined_none sellers stands ps drawn
    (live_empty (length ps) (λ (p : ℕ). (pair_of ps p).lots) (omega (arith, enough)))
    (live_empty (length stands) (entry drawn) (omega (arith, enough)))
lined lower sellers stands (suc turns) ps drawn long standing even enough =
    let ps' = left_pairs lower sellers stands ps drawn in
    let drawn' = left_drawn lower sellers stands ps drawn in
    one_turn lower sellers stands ps drawn even long standing (stage_two lower sellers stands turns ps' drawn')
    (λ turn. lined lower sellers stands turns ps' drawn' (long_left turn) standing (even_left turn) (enough_left turn turns enough))
    (eqb (taken lower sellers stands ps drawn) 0)
    refl
