-- Sections in an order give what they have, while their code's cap and the whole need last (`taken`, steps 2 to 4).
use Rattle.numbers.proofs.Words.{ℕ, ◌+◌, ◌-◌, ◌≤◌, ◌<◌, min, arith, ◌≡◌, refl, ap, ◌∙◌, Bool, true, false, cond, List, [], ◌∷◌, map, ◌⊎◌, inl, inr, ⊎_elim, eqb, ltb, length, set, replicate, length-set, length-replicate, get_or-set_same, get_or-set_other, ltb-true, eqb-true, ◌and◌, entry, counted, listed, gathered, total, many}
use Rattle.rules.specs.declared.book.{Section.Section}
use Rattle.numbers.proofs.Sums.{naturals, total-set}
use Rattle.numbers.proofs.Under.{under_none}
use Rattle.numbers.proofs.Entries.{entry_part, noughts_at, noughts_total, off_entry, off_total}
use Rattle.numbers.proofs.Counts.{one}
use Rattle.numbers.proofs.Ranges.{chosen_yes, chosen_no, sum_nothing, sum_changed}
use Rattle.numbers.proofs.Orders.{ordered-total, times, Once, first_once, first_below, rest_once, ordered_once}
use Rattle.numbers.proofs.Tests.{and_left, and_right, both, below_or_not, same_or_not}
use Rattle.rules.specs.Book.{section_of}
use Rattle.rules.specs.Expiry.{lower_section_code}
use Rattle.method_laws.specs.Giving.{in_order, taken_from, taken}

-- a section that gives nothing does not give in part
not_in_part : (t u : Bool) → one (t and ltb 0 0 and u) ≡ 0
not_in_part true u = refl
not_in_part false u = refl

-- the lots of a code's sections
abbrev pub of_code : List Section → ℕ → List ℕ → ℕ
of_code ss c lots = total (listed (length ss) (λ (i : ℕ). cond (eqb (section_of ss i).settlement c) (entry lots i) 0))

module _ (ss : List Section) (lots : List ℕ) where
  -- what giving comes to: nobody gives more than it has, no code more than its cap, all together no more than the need; and either the need is met or each code gives
  -- its cap, or all that it has
  pub record Given (caps : List ℕ) (need : ℕ) (given : List ℕ) : Type 0 where
    pub long : length given ≡ length ss
    pub each : (i : ℕ) → entry given i ≤ entry lots i
    pub capped : (c : ℕ) → of_code ss c given ≤ entry caps c
    pub needed : total given ≤ need
    pub filled : (total given ≡ need) ⊎ ((c : ℕ) → of_code ss c given ≡ min (entry caps c) (of_code ss c lots))

  abbrev code : ℕ → ℕ
  code i = (section_of ss i).settlement

  -- the lots of a code's sections that stand in an order
  abbrev held : ℕ → List ℕ → ℕ
  held c is = total (map (λ (i : ℕ). cond (eqb (code i) c) (entry lots i) 0) is)

  -- at how many sections of a code some lots are given, and not all
  abbrev in_part : ℕ → List ℕ → ℕ
  in_part c done = many (length ss) (λ (i : ℕ). eqb (code i) c and ltb 0 (entry done i) and ltb (entry done i) (entry lots i))

  -- sections that stand in the order have not given yet
  record Fresh (is done : List ℕ) : Type 0 where
    order : Once (length ss) is
    empty : (j : ℕ) → 0 < times j is → entry done j ≡ 0
    long : length done ≡ length ss

  -- what the rest of an order gives, on top of what was given before
  record Outcome (is caps : List ℕ) (need : ℕ) (done result : List ℕ) : Type 0 where
    long : length result ≡ length ss
    each : ((i : ℕ) → entry done i ≤ entry lots i) → (i : ℕ) → entry result i ≤ entry lots i
    capped : (c : ℕ) → of_code ss c result ≤ of_code ss c done + entry caps c
    more : total done ≤ total result
    needed : total result ≤ total done + need
    filled : (total result ≡ total done + need) ⊎ ((c : ℕ) → of_code ss c result ≡ of_code ss c done + min (entry caps c) (held c is))
    by_code : total caps ≤ need → (c : ℕ) → of_code ss c result ≡ of_code ss c done + min (entry caps c) (held c is)
    parts : total caps ≤ need → (c : ℕ) → in_part c result ≤ in_part c done + min 1 (entry caps c)

  -- one section gives
  module _ (i : ℕ) (is caps : List ℕ) (need : ℕ) (done : List ℕ) (fresh : Fresh (i ∷ is) done) where
    abbrev amount : ℕ
    amount = min (entry lots i) (min (entry caps (code i)) need)

    abbrev left : List ℕ
    left = set caps (code i) (entry caps (code i) - amount)

    abbrev now : List ℕ
    now = set done i amount

    place : i < length ss
    place = first_below (length ss) i is fresh.order

    room : i < length done
    room = omega (arith, place, fresh.long)

    nothing_yet : entry done i ≡ 0
    unfolding gathered
    nothing_yet = fresh.empty i (omega (arith, chosen_yes {A = ℕ} i i 1 0 refl))

    fresh_next : Fresh is now
    unfolding gathered
    fresh_next =
        record {
          order = rest_once (length ss) i is fresh.order;
          empty = λ j h.
              get_or-set_other done i j amount 0 (λ e. absurd (omega (arith, h, ap (λ (k : ℕ). times k is) e, first_once (length ss) i is fresh.order)))
              ∙ fresh.empty j (omega (arith, h));
          long = length-set done i amount ∙ fresh.long;
        }

    within_cap : amount ≤ entry caps (code i)
    within_cap = omega arith

    left_at : (c : ℕ) → cond (eqb (code i) c) amount 0 + entry left c ≡ entry caps c
    left_at = off_entry caps (code i) amount within_cap

    left_total : amount + total left ≡ total caps
    left_total = off_total caps (code i) amount within_cap

    now_each : ((j : ℕ) → entry done j ≤ entry lots j) → (j : ℕ) → entry now j ≤ entry lots j
    now_each le j =
        ⊎_elim (λ (e : j ≡ i). omega (arith, ap (entry now) e, ap (entry lots) e, get_or-set_same done i amount 0 room))
        (λ (e : j ≡ i → ⊥). omega (arith, le j, get_or-set_other done i j amount 0 e))
        (same_or_not j i)

    now_total : total now ≡ total done + amount
    now_total = omega (arith, total-set ◌+◌ 0 naturals done i amount room, nothing_yet)

    -- what is read of the entries, where nothing is read of 0
    now_read : (read : ℕ → ℕ → ℕ) → read i 0 ≡ 0
        → total (listed (length ss) (λ (j : ℕ). read j (entry now j))) ≡ total (listed (length ss) (λ (j : ℕ). read j (entry done j))) + read i amount
    now_read read none = omega (arith, none, ap (read i) nothing_yet, sum_changed ◌+◌ 0 naturals read done 0 i amount (length ss) place (omega (arith, fresh.long)))

    now_of : (c : ℕ) → of_code ss c now ≡ of_code ss c done + cond (eqb (code i) c) amount 0
    now_of c = now_read (λ (j v : ℕ). cond (eqb (code j) c) v 0) (under_none (eqb (code i) c) 0 (λ e. refl))

    now_part : (c : ℕ) → in_part c now ≡ in_part c done + one (eqb (code i) c and ltb 0 amount and ltb amount (entry lots i))
    unfolding many
    now_part c = now_read (λ (j v : ℕ). one (eqb (code j) c and ltb 0 v and ltb v (entry lots j))) (not_in_part (eqb (code i) c) (ltb 0 (entry lots i)))

    -- where the need does not end it, a code gives its cap or what it has, of this section and the rest
    joined : (result : List ℕ) (c : ℕ) → amount ≡ min (entry lots i) (entry caps (code i))
        → of_code ss c result ≡ of_code ss c now + min (entry left c) (held c is) → of_code ss c result ≡ of_code ss c done + min (entry caps c) (held c (i ∷ is))
    unfolding gathered
    joined result c full rest =
        ⊎_elim
        (λ (e : code i ≡ c).
        omega (arith, full, rest, now_of c, left_at c, chosen_yes (code i) c amount 0 e, chosen_yes (code i) c (entry lots i) 0 e, ap (entry caps) e))
        (λ (e : code i ≡ c → ⊥).
        omega (arith, rest, now_of c, left_at c, chosen_no (code i) c amount 0 e, chosen_no (code i) c (entry lots i) 0 e))
        (same_or_not (code i) c)

    -- a section that gives in part has used up its code's cap
    used_up : (c : ℕ) → amount ≡ min (entry lots i) (entry caps (code i))
        → one (eqb (code i) c and ltb 0 amount and ltb amount (entry lots i)) + min 1 (entry left c) ≤ min 1 (entry caps c)
    used_up c full = go (eqb (code i) c and ltb 0 amount and ltb amount (entry lots i)) refl
      where
        go : (t : Bool) → (eqb (code i) c and ltb 0 amount and ltb amount (entry lots i)) ≡ t → one t + min 1 (entry left c) ≤ min 1 (entry caps c)
        go true e =
            let here : code i ≡ c = eqb-true (code i) c (and_left (eqb (code i) c) (ltb 0 amount and ltb amount (entry lots i)) e) in
            let inside = both (ltb 0 amount) (ltb amount (entry lots i)) (and_right (eqb (code i) c) (ltb 0 amount and ltb amount (entry lots i)) e) in
            omega (
              arith,
              full,
              ltb-true 0 amount inside.0,
              ltb-true amount (entry lots i) inside.1,
              left_at c,
              chosen_yes (code i) c amount 0 here,
              ap (entry caps) here,
            )
        go false e = omega (arith, left_at c)

    next : (result : List ℕ) → Outcome is left (need - amount) now result → Outcome (i ∷ is) caps need done result
    next result o =
        let unbound : total caps ≤ need → amount ≡ min (entry lots i) (entry caps (code i)) = λ enough. omega (arith, enough, entry_part caps (code i)) in
        let enough_left : total caps ≤ need → total left ≤ need - amount = λ enough. omega (arith, enough, left_total) in
        record {
          long = o.long;
          each = λ le. o.each (now_each le);
          capped = λ c. omega (arith, o.capped c, now_of c, left_at c);
          more = omega (arith, o.more, now_total);
          needed = omega (arith, o.needed, now_total);
          filled =
              ⊎_elim (λ (h : amount < need).
              ⊎_elim (λ (e : total result ≡ total now + (need - amount)). inl (omega (arith, e, now_total)))
              (λ (e : (c : ℕ) → of_code ss c result ≡ of_code ss c now + min (entry left c) (held c is)). inr (λ c. joined result c (omega (arith, h)) (e c)))
              o.filled)
              (λ (h : need ≤ amount). inl (omega (arith, h, o.more, o.needed, now_total)))
              (below_or_not amount need);
          by_code = λ enough c. joined result c (unbound enough) (o.by_code (enough_left enough) c);
          parts = λ enough c. omega (arith, o.parts (enough_left enough) c, now_part c, used_up c (unbound enough));
        }

  -- the order is at its end
  nothing_more : (caps : List ℕ) (need : ℕ) (done : List ℕ) → length done ≡ length ss → Outcome [] caps need done done
  unfolding gathered
  nothing_more caps need done long =
      record {
        long = long;
        each = λ le. le;
        capped = λ c. omega arith;
        more = omega arith;
        needed = omega arith;
        filled = inr (λ c. omega arith);
        by_code = λ enough c. omega arith;
        parts = λ enough c. omega arith;
      }

  outcome : (is caps : List ℕ) (need : ℕ) (done : List ℕ) → Fresh is done → Outcome is caps need done (taken_from ss is lots caps need done)
  unfolding taken_from
  outcome [] caps need done fresh = nothing_more caps need done fresh.long
  outcome (i ∷ is) caps need done fresh = next i is caps need done fresh _ (outcome is _ _ _ (fresh_next i is caps need done fresh))

  -- at the start nobody has given
  none_of : (c : ℕ) → of_code ss c (replicate (length ss) 0) ≡ 0
  none_of c =
      sum_nothing ◌+◌ 0 naturals (length ss) _
      (λ i h. under_none (eqb (code i) c) (entry (replicate (length ss) 0) i) (λ e. noughts_at (length ss) i))

  none_in_part : (c : ℕ) → in_part c (replicate (length ss) 0) ≡ 0
  unfolding many
  none_in_part c =
      sum_nothing ◌+◌ 0 naturals (length ss) _
      (λ i h.
      ap (λ (v : ℕ). one (eqb (code i) c and ltb 0 v and ltb v (entry lots i))) (noughts_at (length ss) i) ∙ not_in_part (eqb (code i) c) (ltb 0 (entry lots i)))

  -- an order has all sections, each once
  order_held : (sooner : ℕ → ℕ → Bool) (c : ℕ) → held c (in_order sooner (lower_section_code ss) lots (length ss)) ≡ of_code ss c lots
  unfolding in_order
  order_held sooner c = ordered-total ◌+◌ 0 naturals _ (λ (i : ℕ). cond (eqb (code i) c) (entry lots i) 0) (counted 0 (length ss))

  order_fresh : (sooner : ℕ → ℕ → Bool) → Fresh (in_order sooner (lower_section_code ss) lots (length ss)) (replicate (length ss) 0)
  unfolding in_order
  order_fresh sooner = record { order = ordered_once _ (length ss); empty = λ j h. noughts_at (length ss) j; long = length-replicate (length ss) 0 }

  taken_outcome : (sooner : ℕ → ℕ → Bool) (caps : List ℕ) (need : ℕ)
      → Outcome (in_order sooner (lower_section_code ss) lots (length ss)) caps need (replicate (length ss) 0) (taken ss (in_order sooner (lower_section_code ss) lots (length ss)) lots caps need)
  unfolding taken
  taken_outcome sooner caps need = outcome (in_order sooner (lower_section_code ss) lots (length ss)) caps need (replicate (length ss) 0) (order_fresh sooner)

  -- the giving of all sections, in an order
  pub given : (sooner : ℕ → ℕ → Bool) (caps : List ℕ) (need : ℕ) → Given caps need (taken ss (in_order sooner (lower_section_code ss) lots (length ss)) lots caps need)
  given sooner caps need =
      let o = taken_outcome sooner caps need in
      record {
        long = o.long;
        each = o.each (λ i. omega (arith, noughts_at (length ss) i));
        capped = λ c. omega (arith, o.capped c, none_of c);
        needed = omega (arith, o.needed, noughts_total (length ss));
        filled = ⊎_elim (λ e. inl (omega (arith, e, noughts_total (length ss)))) (λ e. inr (λ c. omega (arith, e c, none_of c, order_held sooner c))) o.filled;
      }

  -- where the need is that of all caps, it never ends the giving
  pub given_by_code : (sooner : ℕ → ℕ → Bool) (caps : List ℕ) (need c : ℕ) → total caps ≤ need
      → of_code ss c (taken ss (in_order sooner (lower_section_code ss) lots (length ss)) lots caps need) ≡ min (entry caps c) (of_code ss c lots)
  given_by_code sooner caps need c enough = omega (arith, (taken_outcome sooner caps need).by_code enough c, none_of c, order_held sooner c)

  -- and at most one section of a code gives in part
  pub one_part : (sooner : ℕ → ℕ → Bool) (caps : List ℕ) (need c : ℕ) → total caps ≤ need
      → many (length ss)
      (λ (i : ℕ).
      eqb (section_of ss i).settlement c and ltb 0 (entry (taken ss (in_order sooner (lower_section_code ss) lots (length ss)) lots caps need) i) and ltb (entry (taken ss (in_order sooner (lower_section_code ss) lots (length ss)) lots caps need) i) (entry lots i))
      ≤ 1
  one_part sooner caps need c enough = omega (arith, (taken_outcome sooner caps need).parts enough c, none_in_part c)
