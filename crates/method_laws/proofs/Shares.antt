-- What sections give one after the other is what the definitions say of each by itself.
use Rattle.numbers.proofs.Words.{ℕ, ◌+◌, ◌-◌, ◌≤◌, ◌<◌, min, le_trans, arith, ◌≡◌, refl, sym, ap, subst, ◌∙◌, Bool, true, false, cond, List, [], ◌∷◌, ◌++◌, append_assoc, map, ◌⊎◌, inl, inr, ⊎_elim, eqb, ltb, length, set, replicate, length-set, length-replicate, get_or-set_same, get_or-set_other, get_or-map, ltb-true, ltb-false, eqb-true, lt-ltb, le-ltb, eq-eqb, ℤ, pos, nat_abs, ◌and◌, entry, entry_ℤ, listed, gathered, total}
use Rattle.rules.specs.declared.book.{Section.Section}
use Rattle.numbers.proofs.Sums.{naturals, total_last}
use Rattle.numbers.proofs.Under.{under_two}
use Rattle.numbers.proofs.Entries.{entry_part, off_entry, off_total}
use Rattle.numbers.proofs.Ranges.{chosen_yes, chosen_no, listed-length, listed_at, listed_same, listed_known, listed_most, sum_same}
use Rattle.numbers.proofs.Orders.{Ranks, ordered_ahead, times, Once, first_below, rest_once, ordered_once, ordered_there}
use Rattle.numbers.proofs.Tests.{and_left, and_right, or_cases, or_left, below_or_not, same_or_not}
use Rattle.rules.specs.Book.{position_of, section_of}
use Rattle.rules.specs.Expiry.{opposed, chosen, lower_section_code, earlier, share, shares_in_codes}
use Rattle.rules.specs.Expiry.Codes.{given_in_codes}
use Rattle.rules.specs.Expiry.Across.{code_cap, given_across}
use Rattle.method_laws.specs.Giving.{sooner, in_order, taken_from, taken, code_caps}
use Rattle.method_laws.proofs.Sides.{chosen_within}

-- section codes tell the sections apart
abbrev pub Told : List Section → Type 0
Told ss = Ranks (length ss) (lower_section_code ss)

-- one number of lots comes sooner than another
sooner_self : (larger : Bool) (x : ℕ) → sooner larger x x ≡ false
sooner_self true x = le-ltb x x (omega arith)
sooner_self false x = le-ltb x x (omega arith)

sooner_along : (larger : Bool) (x y z : ℕ) → sooner larger x y ≡ true → sooner larger y z ≡ true → sooner larger x z ≡ true
sooner_along true x y z p q = lt-ltb z x (omega (arith, ltb-true y x p, ltb-true z y q))
sooner_along false x y z p q = lt-ltb x z (omega (arith, ltb-true x y p, ltb-true y z q))

sooner_apart : (larger : Bool) (x y : ℕ) → sooner larger x y ≡ false → sooner larger y x ≡ false → x ≡ y
sooner_apart true x y p q = omega (arith, ltb-false y x p, ltb-false x y q)
sooner_apart false x y p q = omega (arith, ltb-false x y p, ltb-false y x q)

-- so the order by lots, then by section code, tells them apart
module _ (ss : List Section) (told : Told ss) (larger : Bool) (lots : List ℕ) where
  abbrev comes : ℕ → ℕ → Bool
  comes = earlier (sooner larger) (lower_section_code ss) lots

  split : (i j : ℕ) → comes i j ≡ true → (sooner larger (entry lots i) (entry lots j) ≡ true) ⊎ ((entry lots i ≡ entry lots j) × (lower_section_code ss i j ≡ true))
  split i j e =
      ⊎_elim inl (λ p. inr (eqb-true (entry lots i) (entry lots j) (and_left (eqb (entry lots i) (entry lots j)) (lower_section_code ss i j) p), and_right (eqb (entry lots i) (entry lots j)) (lower_section_code ss i j) p))
      (or_cases (sooner larger (entry lots i) (entry lots j)) (eqb (entry lots i) (entry lots j) and lower_section_code ss i j) e)

  by_lots : (i j : ℕ) → sooner larger (entry lots i) (entry lots j) ≡ true → comes i j ≡ true
  by_lots i j e = simp e

  by_code : (i j : ℕ) → entry lots i ≡ entry lots j → comes i j ≡ lower_section_code ss i j
  by_code i j e = simp (e, sooner_self larger (entry lots j), eq-eqb (entry lots j) (entry lots j) refl)

  comes_along : (i j k : ℕ) → comes i j ≡ true → comes j k ≡ true → comes i k ≡ true
  comes_along i j k p q =
      let x = entry lots i in
      let z = entry lots k in
      ⊎_elim
      (λ a.
      by_lots i k
      (⊎_elim (λ b. sooner_along larger x (entry lots j) z a b) (λ b. subst (λ (n : ℕ). sooner larger x n ≡ true) b.0 a) (split j k q)))
      (λ a.
      ⊎_elim (λ b. by_lots i k (subst (λ (n : ℕ). sooner larger n z ≡ true) (sym a.0) b))
      (λ b. by_code i k (a.0 ∙ b.0) ∙ told.along i j k a.1 b.1)
      (split j k q))
      (split i j p)

  comes_apart : (i j : ℕ) → i < length ss → j < length ss → comes i j ≡ false → comes j i ≡ false → i ≡ j
  comes_apart i j h k p q =
      let later : (i j : ℕ) → comes i j ≡ false → sooner larger (entry lots i) (entry lots j) ≡ false =
      λ i j e. or_left (sooner larger (entry lots i) (entry lots j)) (eqb (entry lots i) (entry lots j) and lower_section_code ss i j) e in
      let level = sooner_apart larger (entry lots i) (entry lots j) (later i j p) (later j i q) in
      told.apart i j h k (sym (by_code i j level) ∙ p) (sym (by_code j i (sym level)) ∙ q)

  pub ranks : Ranks (length ss) comes
  ranks = record { self = λ i. by_code i i refl ∙ told.self i; along = comes_along; apart = comes_apart }

  module _ (long : length lots ≡ length ss) (caps₀ : List ℕ) (need₀ : ℕ) where
    abbrev code : ℕ → ℕ
    code i = (section_of ss i).settlement

    abbrev order : List ℕ
    order = in_order (sooner larger) (lower_section_code ss) lots (length ss)

    -- what a section may give for its code, and what it gives
    abbrev allowed : List ℕ
    allowed = shares_in_codes (sooner larger) ss lots (entry caps₀)

    abbrev amount_of : ℕ → ℕ
    amount_of = λ (i : ℕ). share (λ (j : ℕ). comes j i) allowed need₀ i

    allowed_long : length allowed ≡ length ss
    unfolding shares_in_codes
    allowed_long = listed-length (length ss) _

    -- the lots of a code's sections among those that gave
    abbrev gone : ℕ → List ℕ → ℕ
    gone c front = total (map (λ (i : ℕ). cond (eqb (code i) c) (entry lots i) 0) front)

    -- section i in the order
    module _ (front is : List ℕ) (i : ℕ) (place : i < length ss) (stands : front ++ (i ∷ is) ≡ order) where
      allowed_at : entry allowed i ≡ min (entry lots i) (entry caps₀ (code i) - gone (code i) front)
      unfolding shares_in_codes share in_order
      allowed_at =
          let mine : ℕ → ℕ = λ (j : ℕ). cond (eqb (code j) (code i)) (entry lots j) 0 in
          listed_at (length ss) (λ (k : ℕ). share (λ (j : ℕ). eqb (code j) (code k) and comes j k) lots (entry caps₀ (code k)) k) i 0 place
          ∙ ap (λ (n : ℕ). min (entry lots i) (entry caps₀ (code i) - n))
          (ap (λ (n : ℕ). total (listed n (λ (j : ℕ). cond (eqb (code j) (code i) and comes j i) (entry lots j) 0))) long
          ∙ sum_same ◌+◌ 0 naturals (length ss) _ (λ (j : ℕ). cond (comes j i) (mine j) 0) (λ j h. under_two (eqb (code j) (code i)) (comes j i) (entry lots j))
          ∙ ordered_ahead (length ss) comes ranks mine i front is stands)

      amount_at : amount_of i ≡ min (entry allowed i) (need₀ - total (map (entry allowed) front))
      unfolding share in_order
      amount_at =
          ap (λ (n : ℕ). min (entry allowed i) (need₀ - n))
          (ap (λ (n : ℕ). total (listed n (λ (j : ℕ). cond (comes j i) (entry allowed j) 0))) allowed_long ∙ ordered_ahead (length ss) comes ranks (entry allowed) i front is stands)

    -- some sections gave, and the others are to give
    record Partway (front is caps : List ℕ) (need : ℕ) (done : List ℕ) : Type 0 where
      stands : front ++ is ≡ order
      once : Once (length ss) is
      full : length done ≡ length ss
      need_left : need ≡ need₀ - total (map (entry allowed) front)
      caps_left : (0 < need) ⊎ (total caps ≤ need) → (c : ℕ) → entry caps c ≡ entry caps₀ c - gone c front
      enough : total caps₀ ≤ need₀ → total caps ≤ need
      gave : (j : ℕ) → j < length ss → times j is ≡ 0 → (entry done j ≡ amount_of j) × (total caps₀ ≤ need₀ → entry done j ≡ entry allowed j)

    module _ (front : List ℕ) (i : ℕ) (is caps : List ℕ) (need : ℕ) (done : List ℕ) (now : Partway front (i ∷ is) caps need done) where
      abbrev amount : ℕ
      amount = min (entry lots i) (min (entry caps (code i)) need)

      abbrev left : List ℕ
      left = set caps (code i) (entry caps (code i) - amount)

      place : i < length ss
      place = first_below (length ss) i is now.once

      within : amount ≤ entry caps (code i)
      within = omega arith

      -- what it gives is bound by what its code allows and the need
      bound : (0 < need) ⊎ (total caps ≤ need) → amount ≡ min (entry allowed i) need
      bound h = omega (arith, allowed_at front is i place now.stands, now.caps_left h (code i))

      amount_is : amount ≡ min (entry allowed i) need
      amount_is = ⊎_elim (λ (h : 0 < need). bound (inl h)) (λ (h : need ≤ 0). omega (arith, h)) (below_or_not 0 need)

      -- where the need does not end it, by what its code allows alone
      unbound : (0 < need - amount) ⊎ (total left ≤ need - amount) → (amount ≡ entry allowed i) × ((0 < need) ⊎ (total caps ≤ need))
      unbound h =
          ⊎_elim (λ (some : 0 < need - amount). (omega (arith, some, amount_is), inl (omega (arith, some))))
          (λ (all : total left ≤ need - amount).
          let over : total caps ≤ need = omega (arith, all, off_total caps (code i) amount within) in
          (omega (arith, over, entry_part caps (code i), allowed_at front is i place now.stands, now.caps_left (inr over) (code i)), inr over))
          h

      next : Partway (front ++ (i ∷ [])) is left (need - amount) (set done i amount)
      unfolding gathered
      next =
          record {
            stands = append_assoc front (i ∷ []) is ∙ now.stands;
            once = rest_once (length ss) i is now.once;
            full = length-set done i amount ∙ now.full;
            need_left = omega (arith, now.need_left, amount_is, total_last ◌+◌ 0 naturals (entry allowed) front i);
            caps_left = λ h c. caps_next (unbound h).0 c (now.caps_left (unbound h).1 c);
            enough = λ h. omega (arith, now.enough h, off_total caps (code i) amount within);
            gave = λ j h none. ⊎_elim (gives j) (λ (e : j ≡ i → ⊥). let same = get_or-set_other done i j amount 0 e in let was = now.gave j h (omega (arith, none, chosen_no {A = ℕ} j i 1 0 e)) in (same ∙ was.0, λ all. same ∙ was.1 all)) (same_or_not j i);
          }
        where
          caps_next : amount ≡ entry allowed i → (c : ℕ) → entry caps c ≡ entry caps₀ c - gone c front → entry left c ≡ entry caps₀ c - gone c (front ++ (i ∷ []))
          caps_next full c was =
              let more = total_last ◌+◌ 0 naturals (λ (j : ℕ). cond (eqb (code j) c) (entry lots j) 0) front i in
              let off = off_entry caps (code i) amount within c in
              ⊎_elim
              (λ (e : code i ≡ c).
              omega (arith, was, more, off, full, allowed_at front is i place now.stands, chosen_yes (code i) c amount 0 e, chosen_yes (code i) c (entry lots i) 0 e, ap (entry caps₀) e, ap (λ (d : ℕ). gone d front) e))
              (λ (e : code i ≡ c → ⊥). omega (arith, was, more, off, chosen_no (code i) c amount 0 e, chosen_no (code i) c (entry lots i) 0 e))
              (same_or_not (code i) c)

          gives : (j : ℕ) → j ≡ i → (entry (set done i amount) j ≡ amount_of j) × (total caps₀ ≤ need₀ → entry (set done i amount) j ≡ entry allowed j)
          gives j e =
              let here : entry (set done i amount) j ≡ amount = ap (entry (set done i amount)) e ∙ get_or-set_same done i amount 0 (omega (arith, place, now.full)) in (
                here ∙ amount_is ∙ ap (min (entry allowed i)) now.need_left ∙ sym (amount_at front is i place now.stands) ∙ ap amount_of (sym e),
                λ all. here ∙ (unbound (inr (omega (arith, now.enough all, off_total caps (code i) amount within)))).0 ∙ ap (entry allowed) (sym e),
              )

    ends : (front is caps : List ℕ) (need : ℕ) (done : List ℕ) → Partway front is caps need done
        → (length (taken_from ss is lots caps need done) ≡ length ss) × ((j : ℕ) → j < length ss → (entry (taken_from ss is lots caps need done) j ≡ amount_of j) × (total caps₀ ≤ need₀ → entry (taken_from ss is lots caps need done) j ≡ entry allowed j))
    unfolding taken_from gathered
    ends front [] caps need done now = (now.full, λ j h. now.gave j h refl)
    ends front (i ∷ is) caps need done now = ends (front ++ (i ∷ [])) is _ _ _ (next front i is caps need done now)

    start : Partway [] order caps₀ need₀ (replicate (length ss) 0)
    unfolding in_order gathered
    start =
        record {
          stands = refl;
          once = ordered_once comes (length ss);
          full = length-replicate (length ss) 0;
          need_left = omega arith;
          caps_left = λ h c. omega arith;
          enough = λ h. h;
          gave = λ j h none. absurd (omega (arith, none, ordered_there comes (length ss) j h));
        }

    pub taken_shares : taken ss order lots caps₀ need₀ ≡ listed (length ss) amount_of
    unfolding taken
    taken_shares = let all = ends [] order caps₀ need₀ (replicate (length ss) 0) start in listed_known (length ss) _ 0 amount_of all.0 (λ j h. (all.1 j h).0)

    -- where the need is that of all caps, it never ends the giving
    pub taken_all : total caps₀ ≤ need₀ → taken ss order lots caps₀ need₀ ≡ allowed
    unfolding taken
    taken_all enough =
        let all = ends [] order caps₀ need₀ (replicate (length ss) 0) start in
        listed_known (length ss) _ 0 (entry allowed) all.0 (λ j h. (all.1 j h).1 enough) ∙ sym (listed_known (length ss) allowed 0 (entry allowed) allowed_long (λ j h. refl))

-- no section gives more than it has
share_within : (ahead : ℕ → Bool) (lots : List ℕ) (wanted i : ℕ) → share ahead lots wanted i ≤ entry lots i
unfolding share
share_within ahead lots wanted i = omega arith

module _ (ss : List Section) where
  shares_within : (sooner : ℕ → ℕ → Bool) (lots : List ℕ) (wanted : ℕ → ℕ) (i : ℕ) → entry (shares_in_codes sooner ss lots wanted) i ≤ entry lots i
  unfolding shares_in_codes
  shares_within sooner lots wanted = listed_most (length ss) _ (entry lots) (λ i. share_within _ lots _ i)

  pub in_codes_within : (gap : List ℤ) (sound : List ℕ) (i : ℕ) → entry (given_in_codes ss gap sound) i ≤ entry sound i
  unfolding given_in_codes
  in_codes_within gap sound i =
      let test : Section → Bool = λ (s : Section). opposed (position_of s) (entry_ℤ gap s.settlement) in
      le_trans (shares_within ltb (chosen ss test sound) _ i) (chosen_within ss test sound i)

  pub across_within : (d : ℤ) (left : List ℕ) (i : ℕ) → entry (given_across ss d left) i ≤ entry left i
  unfolding given_across
  across_within d left i =
      let test : Section → Bool = λ (s : Section). opposed (position_of s) d in
      let lots = chosen ss test left in
      le_trans (listed_most (length ss) _ (entry lots) (λ j. le_trans (share_within _ _ _ j) (shares_within ltb lots _ j)) i) (chosen_within ss test left i)

  -- what is wanted of other codes than the sections' own does not count
  shares_same : (sooner : ℕ → ℕ → Bool) (lots : List ℕ) (f g : ℕ → ℕ) → ((i : ℕ) → i < length ss → f (section_of ss i).settlement ≡ g (section_of ss i).settlement) → shares_in_codes sooner ss lots f ≡ shares_in_codes sooner ss lots g
  unfolding shares_in_codes
  shares_same sooner lots f g same =
      listed_same (length ss) _ _ (λ i h. ap (λ (w : ℕ). share (λ (j : ℕ). eqb (section_of ss j).settlement (section_of ss i).settlement and earlier sooner (lower_section_code ss) lots j i) lots w i) (same i h))

  module _ (told : Told ss) where
    -- steps 2 and 4: a code wants the size of a number, and the need is all sizes
    pub taken_sizes : (larger : Bool) (lots : List ℕ) (zs : List ℤ) → length lots ≡ length ss → taken ss (in_order (sooner larger) (lower_section_code ss) lots (length ss)) lots (map nat_abs zs) (total (map nat_abs zs)) ≡ shares_in_codes (sooner larger) ss lots (λ (c : ℕ). nat_abs (entry_ℤ zs c))
    taken_sizes larger lots zs long =
        taken_all ss told larger lots long (map nat_abs zs) (total (map nat_abs zs)) (omega arith)
        ∙ shares_same (sooner larger) lots _ _ (λ i h. get_or-map nat_abs zs (section_of ss i).settlement (pos 0))

    -- step 3
    pub taken_across : ((i : ℕ) → i < length ss → (section_of ss i).settlement < 64) → (d : ℤ) (left : List ℕ)
        → let lots = chosen ss (λ (s : Section). opposed (position_of s) d) left in
        taken ss (in_order ltb (lower_section_code ss) lots (length ss)) lots (code_caps ss d left) (nat_abs d) ≡ given_across ss d left
    unfolding given_across
    taken_across codes d left =
        let lots = chosen ss (λ (s : Section). opposed (position_of s) d) left in
        taken_shares ss told false lots (listed-length (length ss) _) (code_caps ss d left) (nat_abs d)
        ∙ ap (λ (allowed : List ℕ). listed (length ss) (λ (i : ℕ). share (λ (j : ℕ). earlier ltb (lower_section_code ss) lots j i) allowed (nat_abs d) i))
        (shares_same ltb lots _ _ (λ i h. listed_at 64 (code_cap ss d left) (section_of ss i).settlement 0 (codes i h)))
