-- Step 4: what goes outside of a code is what one side has over the other, and what stays inside is even.
use Rattle.numbers.proofs.Words.{ℕ, ◌+◌, ◌-◌, ◌≤◌, ◌<◌, min, le_trans, arith, ◌≡◌, sym, ap, subst, ◌∙◌, Bool, true, false, cond, ◌&&◌, and-true, and-false, or-false, List, map, ◌⊎◌, inl, inr, ⊎_elim, eqb, ltb, length, ℤ, pos, nat_abs, ◌-ℤ◌, eqb-true, eq-eqb, lt-ltb, ltb-true, ◌and◌, listed, entry, entry_ℤ, less, total, many}
use Rattle.rules.specs.declared.book.{Section.Section}
use Rattle.numbers.proofs.Sums.{naturals}
use Rattle.numbers.proofs.Whole.{difference_size, difference_above, difference_below}
use Rattle.numbers.proofs.Counts.{many_within}
use Rattle.numbers.proofs.Changed.{read_at}
use Rattle.numbers.proofs.Ranges.{listed_at, listed-length, less_at, sum_same, sum_empty}
use Rattle.numbers.proofs.Tests.{and_left, and_right, together, below_or_not}
use Rattle.rules.specs.Book.{position_of, section_of}
use Rattle.rules.specs.Expiry.{size, is_long, is_short, agreed, net_of_code, chosen, lower_section_code}
use Rattle.rules.specs.Expiry.Outside.{outside}
use Rattle.method_laws.specs.Giving.{sooner, in_order, taken}
use Rattle.method_laws.proofs.Shares.{Told, taken_sizes}
use Rattle.method_laws.proofs.Greedy.{of_code, Given, given, given_by_code, one_part}
use Rattle.method_laws.proofs.Sides.{side_of, all_of, chosen_within, lots_less, side_classes, net_sides, code_sides}
use Rattle.method_laws.proofs.Across.{chosen_of_code, lots_none}
use Rattle.method_laws.proofs.Steps.{long_not_short, short_not_long}

-- on the side of a long number is long, and on the side of a short one short
agrees_long : (p d : ℤ) → is_long d ≡ true → agreed p d ≡ is_long p
agrees_long p d e = simp (e, long_not_short d e, and-true, and-false, or-false)

agrees_short : (p d : ℤ) → is_short d ≡ true → agreed p d ≡ is_short p
agrees_short p d e = simp (e, short_not_long d e, and-true, and-false)

module _ (ss : List Section) (codes : (i : ℕ) → i < length ss → (section_of ss i).settlement < 64) (told : Told ss) (kept : List ℕ) (within : (i : ℕ) → entry kept i ≤ size (section_of ss i)) where
  abbrev nets : List ℤ
  nets = listed 64 (net_of_code ss kept)

  abbrev agreeing : Section → Bool
  agreeing s = agreed (position_of s) (entry_ℤ nets s.settlement)

  abbrev leading : List ℕ
  leading = chosen ss agreeing kept

  abbrev caps : List ℕ
  caps = map nat_abs nets

  abbrev pub far : List ℕ
  far = outside ss kept

  abbrev pub near : List ℕ
  near = less kept far

  taken_far : taken ss (in_order (sooner true) (lower_section_code ss) leading (length ss)) leading caps (total caps) ≡ far
  unfolding outside
  taken_far = taken_sizes ss told true leading nets (listed-length (length ss) _)

  leaving : Given ss leading caps (total caps) far
  leaving = subst (Given ss leading caps (total caps)) taken_far (given ss leading (sooner true) caps (total caps))

  pub far_within : (i : ℕ) → entry far i ≤ entry kept i
  far_within i = omega (arith, leaving.each i, chosen_within ss agreeing kept i)

  -- a code's net, and its size as the cap
  net_at : (c : ℕ) → c < 64 → entry_ℤ nets c ≡ pos (side_of ss is_long c kept) -ℤ pos (side_of ss is_short c kept)
  net_at c h = listed_at 64 (net_of_code ss kept) c (pos 0) h ∙ net_sides ss kept within c

  cap_at : (c : ℕ) → c < 64 → entry caps c ≡ (side_of ss is_long c kept - side_of ss is_short c kept) + (side_of ss is_short c kept - side_of ss is_long c kept)
  cap_at c h =
      read_at nat_abs nets c (pos 0) 0 (omega (arith, listed-length 64 (net_of_code ss kept), h))
      ∙ ap nat_abs (net_at c h)
      ∙ difference_size (side_of ss is_long c kept) (side_of ss is_short c kept)

  of_code_lem : (c : ℕ) → of_code ss c far ≡ min (entry caps c) (of_code ss c leading)
  of_code_lem c =
      subst (λ (xs : List ℕ). of_code ss c xs ≡ min (entry caps c) (of_code ss c leading)) taken_far (given_by_code ss leading (sooner true) caps (total caps) c (omega arith))

  -- the side that a code has more of goes outside, by what it has more
  far_from : (c : ℕ) (mine other : ℤ → Bool) → ((i : ℕ) → i < length ss → eqb (section_of ss i).settlement c ≡ true → agreeing (section_of ss i) ≡ mine (position_of (section_of ss i))) → ((p : ℤ) → other p ≡ true → mine p ≡ false) → of_code ss c far ≡ side_of ss mine c far + side_of ss other c far → entry caps c + side_of ss other c kept ≡ side_of ss mine c kept → (side_of ss mine c far ≡ entry caps c) × (side_of ss other c far ≡ 0)
  far_from c mine other agrees apart both more =
      omega (arith, both, more, of_code_lem c, chosen_of_code ss agreeing mine kept c agrees, lots_none ss agreeing kept far leaving.long leaving.each (λ (s : Section). other (position_of s) and eqb s.settlement c) (λ i h e. agrees i h (and_right (other (position_of (section_of ss i))) (eqb (section_of ss i).settlement c) e) ∙ apart (position_of (section_of ss i)) (and_left (other (position_of (section_of ss i))) (eqb (section_of ss i).settlement c) e)))

  both_far : (c : ℕ) → of_code ss c far ≡ side_of ss is_long c far + side_of ss is_short c far
  both_far = code_sides ss far (λ i. omega (arith, far_within i, within i))

  -- of a code that is even nothing goes outside; of another, its longer side
  module _ (c : ℕ) (below : c < 64) where
    abbrev long : ℕ
    long = side_of ss is_long c kept

    abbrev short : ℕ
    short = side_of ss is_short c kept

    -- the net that a section of the code looks at
    its_net : (i : ℕ) → eqb (section_of ss i).settlement c ≡ true → entry_ℤ nets (section_of ss i).settlement ≡ pos long -ℤ pos short
    its_net i e = ap (entry_ℤ nets) (eqb-true (section_of ss i).settlement c e) ∙ net_at c below

    when_long : short < long → (i : ℕ) → eqb (section_of ss i).settlement c ≡ true → agreeing (section_of ss i) ≡ is_long (position_of (section_of ss i))
    when_long h i e = agrees_long (position_of (section_of ss i)) (entry_ℤ nets (section_of ss i).settlement) (ap is_long (its_net i e) ∙ difference_above long short ∙ lt-ltb short long h)

    when_short : long < short → (i : ℕ) → eqb (section_of ss i).settlement c ≡ true → agreeing (section_of ss i) ≡ is_short (position_of (section_of ss i))
    when_short h i e = agrees_short (position_of (section_of ss i)) (entry_ℤ nets (section_of ss i).settlement) (ap is_short (its_net i e) ∙ difference_below long short ∙ lt-ltb long short h)

    pub far_sides : (side_of ss is_long c far ≡ long - short) × (side_of ss is_short c far ≡ short - long)
    far_sides =
        ⊎_elim (λ (h : short < long). omega (arith, h, cap_at c below, far_from c is_long is_short (λ i k. when_long h i) short_not_long (both_far c) (omega (arith, h, cap_at c below))))
        (λ (h : long ≤ short).
        ⊎_elim
        (λ (k : long < short). omega (arith, k, cap_at c below, far_from c is_short is_long (λ i l. when_short k i) long_not_short (omega (arith, both_far c)) (omega (arith, k, cap_at c below))))
        (λ (k : short ≤ long). omega (arith, h, k, cap_at c below, of_code_lem c, both_far c))
        (below_or_not long short))
        (below_or_not short long)

    pub inside_even : side_of ss is_long c near ≡ side_of ss is_short c near
    inside_even =
        omega (arith, far_sides, lots_less ss (λ (s : Section). is_long (position_of s) and eqb s.settlement c) kept far far_within, lots_less ss (λ (s : Section). is_short (position_of s) and eqb s.settlement c) kept far far_within)

    -- one side of the code stays inside whole
    stays : (side : ℤ → Bool) → side_of ss side c far ≡ 0 → (i : ℕ) → i < length ss → (section_of ss i).settlement ≡ c → side (position_of (section_of ss i)) ≡ true → entry far i ≡ 0
    stays side none i h e t =
        ap (λ (u : Bool). cond u (entry far i) 0) (sym (together t (eq-eqb (section_of ss i).settlement c e)))
        ∙ sum_empty (length ss) (λ (j : ℕ). cond (side (position_of (section_of ss j)) && eqb (section_of ss j).settlement c) (entry far j) 0) none i h

    pub one_stays : ((i : ℕ) → i < length ss → (section_of ss i).settlement ≡ c → is_long (position_of (section_of ss i)) ≡ true → entry far i ≡ 0) ⊎ ((i : ℕ) → i < length ss → (section_of ss i).settlement ≡ c → is_short (position_of (section_of ss i)) ≡ true → entry far i ≡ 0)
    one_stays = ⊎_elim (λ (h : short < long). inr (stays is_short (omega (arith, h, far_sides)))) (λ (h : long ≤ short). inl (stays is_long (omega (arith, h, far_sides)))) (below_or_not short long)

  -- and at most one of its sections is split
  pub one_split_section : (c : ℕ) → many (length ss) (λ (i : ℕ). eqb (section_of ss i).settlement c and ltb 0 (entry near i) and ltb 0 (entry far i)) ≤ 1
  one_split_section c =
      le_trans (many_within (length ss) _ _ (λ i h. split_part i h (eqb (section_of ss i).settlement c)))
      (subst (λ (xs : List ℕ). many (length ss) (λ (i : ℕ). eqb (section_of ss i).settlement c and ltb 0 (entry xs i) and ltb (entry xs i) (entry leading i)) ≤ 1) taken_far (one_part ss leading (sooner true) caps (total caps) c (omega arith)))
    where
      -- a section that the step takes has all its lots
      all_or_none : (i : ℕ) → i < length ss → (entry leading i ≡ entry kept i) ⊎ (entry leading i ≡ 0)
      all_or_none i h = go (agreeing (section_of ss i)) (listed_at (length ss) (λ (j : ℕ). cond (agreeing (section_of ss j)) (entry kept j) 0) i 0 h)
        where
          go : (t : Bool) → entry leading i ≡ cond t (entry kept i) 0 → (entry leading i ≡ entry kept i) ⊎ (entry leading i ≡ 0)
          go true e = inl e
          go false e = inr e

      split_part : (i : ℕ) → i < length ss → (t : Bool) → (t && (ltb 0 (entry near i) && ltb 0 (entry far i))) ≡ true → (t && (ltb 0 (entry far i) && ltb (entry far i) (entry leading i))) ≡ true
      split_part i h t e =
          let both = and_right t (ltb 0 (entry near i) && ltb 0 (entry far i)) e in
          let some_near : 0 < entry near i = ltb-true 0 (entry near i) (and_left (ltb 0 (entry near i)) (ltb 0 (entry far i)) both) in
          let some_far : 0 < entry far i = ltb-true 0 (entry far i) (and_right (ltb 0 (entry near i)) (ltb 0 (entry far i)) both) in
          let in_part_lem : entry far i < entry leading i =
          ⊎_elim (λ all. omega (arith, all, some_near, less_at kept far i)) (λ none. absurd (omega (arith, none, some_far, leaving.each i))) (all_or_none i h) in
          together (and_left t (ltb 0 (entry near i) && ltb 0 (entry far i)) e) (together (lt-ltb 0 (entry far i) some_far) (lt-ltb (entry far i) (entry leading i) in_part_lem))

  pub outside_even : all_of ss is_long kept ≡ all_of ss is_short kept → all_of ss is_long far ≡ all_of ss is_short far
  outside_even even =
      omega (arith, even, lots_less ss (λ (s : Section). is_long (position_of s)) kept far far_within, lots_less ss (λ (s : Section). is_short (position_of s)) kept far far_within, sym (side_classes ss is_long near codes) ∙ sum_same ◌+◌ 0 naturals 64 _ _ (λ c h. inside_even c h) ∙ side_classes ss is_short near codes)
