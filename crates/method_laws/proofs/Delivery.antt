-- The method whole: each section's lots in the lines formed are those it is left with, no notice is drawn beyond its lots, and the lines are few.
use Rattle.numbers.proofs.Words.{ℕ, ◌+◌, ◌≤◌, ◌<◌, arith, ◌≡◌, refl, sym, ap, ap₂, subst, ◌∙◌, Bool, true, false, not, cond, ◌&&◌, ◌||◌, true≢false, List, map, inl, inr, ◌⊎◌, ⊎_elim, eqb, ltb, length, ℤ, pos, negsuc, nat_abs, eqb-true, not-false, ltb-true, ltb-false, ◌and◌, listed, entry, less, total, total_ℤ, many}
use Rattle.rules.specs.declared.book.{Section.Section, Notice.Notice}
use Rattle.numbers.proofs.Sums.{naturals}
use Rattle.numbers.proofs.Ranges.{listed-length, less_at, total_long, sum_same, sum_both, sum_nothing, sum_under, sum_classes, sum_part, chosen_yes}
use Rattle.numbers.proofs.Counts.{many-same, many_most, many-some, many_fewer}
use Rattle.numbers.proofs.Under.{under_same, under_none, under_sum, under_two, under_swapped}
use Rattle.numbers.proofs.Tests.{or_right, below_or_not}
use Rattle.rules.specs.Book.{elevators, section_places, notice_places, settlement_codes, position_of, section_of, notice_of}
use Rattle.rules.specs.Expiry.{size, is_long, is_short}
use Rattle.rules.specs.Expiry.Failing.{fails, noticed}
use Rattle.rules.specs.Expiry.Outside.{outside}
use Rattle.rules.specs.Expiry.Drawing.{drawn}
use Rattle.rules.specs.Expiry.Passes.{Line, inside_pass, outside_pass}
use Rattle.rules.specs.Expiry.Call.{remaining, passes, lines, register_places}
use Rattle.method_laws.proofs.Shares.{Told}
use Rattle.method_laws.proofs.Sides.{side_of, all_of, Within}
use Rattle.method_laws.proofs.Steps.{kept_even, within_kept, kept_failing, long_not_short, short_not_long}
use Rattle.method_laws.proofs.Inside.{far_within, inside_even, outside_even, one_stays, one_split_section}
use Rattle.method_laws.proofs.Drawing.{rest, drawn_section, drawn_ignored, drawn_of_short, drawn_both, drawn_within, one_split}
use Rattle.method_laws.proofs.StageTwo.{line_lots}
use Rattle.method_laws.proofs.Formed.{Formed, formed}
use Rattle.method_laws.proofs.Register.{all_lines, drawn_for, buyer_lots, notice_lots, register_section}
use Rattle.method_laws.proofs.Count.{Split, lines_few}

-- a position that is neither long nor short is 0
even_position : (p : ℤ) → is_long p ≡ false → is_short p ≡ false → nat_abs p ≡ 0
even_position (pos n) long short = omega (arith, ltb-false 0 n long)
even_position (negsuc n) long short = absurd (true≢false short)

module _ (ss : List Section) (ns : List Notice) (codes : (i : ℕ) → i < length ss → (section_of ss i).settlement < settlement_codes) (told : Told ss) (even : total_ℤ (map position_of ss) ≡ pos 0)
    (sections : (k : ℕ) → k < length ns → (notice_of ns k).section < length ss) (standing : (k : ℕ) → k < length ns → (notice_of ns k).elevator < elevators) where
  -- what is left of each section, what of it goes outside and what stays inside, and what is drawn of each notice for them
  abbrev kept : List ℕ
  kept = remaining ss ns

  abbrev far : List ℕ
  far = outside ss kept

  abbrev near : List ℕ
  near = less kept far

  abbrev inside : List ℕ
  inside = drawn ss ns near

  abbrev beyond : List ℕ
  beyond = rest ss ns near kept

  kept_within : (i : ℕ) → entry kept i ≤ size (section_of ss i)
  unfolding Within
  kept_within = within_kept ss ns codes told even

  far_below : (i : ℕ) → entry far i ≤ entry kept i
  far_below = far_within ss codes told kept kept_within

  -- inside and outside make up what is left
  near_far : (i : ℕ) → entry near i + entry far i ≡ entry kept i
  near_far i = omega (arith, less_at kept far i, far_below i)

  near_below : (i : ℕ) → entry near i ≤ entry kept i
  near_below i = omega (arith, near_far i)

  -- so do the two draws of a notice
  inside_beyond : (k : ℕ) → entry inside k + entry beyond k ≡ entry (drawn ss ns kept) k
  inside_beyond = drawn_both ss ns near kept near_below

  -- a short section's notices reach as far as what it delivers
  reach : (i : ℕ) → i < length ss → is_short (position_of (section_of ss i)) ≡ true → entry kept i ≤ noticed ns i
  unfolding fails
  reach i h short = go (fails ss ns i) refl
    where
      go : (t : Bool) → fails ss ns i ≡ t → entry kept i ≤ noticed ns i
      go true e = omega (arith, kept_failing ss ns codes told even i h e)
      go false e =
          let s = section_of ss i in
          let rest : (not s.seller || not (eqb (noticed ns i) (size s))) ≡ false =
          ap (λ (t : Bool). t && (not s.seller || not (eqb (noticed ns i) (size s)))) (sym short) ∙ or_right (not s.met) (is_short (position_of s) && (not s.seller || not (eqb (noticed ns i) (size s)))) e in
          omega (arith, kept_within i, eqb-true (noticed ns i) (size s) (not-false (eqb (noticed ns i) (size s)) (or_right (not s.seller) (not (eqb (noticed ns i) (size s))) rest)))

  -- what a section's notices have of a list of lots by notice
  abbrev of_section : List ℕ → ℕ → ℕ
  of_section xs i = total (listed (length ns) (λ (k : ℕ). cond (eqb (notice_of ns k).section i) (entry xs k) 0))

  -- a short section's notices have its first lots, those of another section none
  drawn_of_lem : (first : List ℕ) (i : ℕ) → i < length ss → entry first i ≤ entry kept i → of_section (drawn ss ns first) i ≡ cond (is_short (position_of (section_of ss i))) (entry first i) 0
  drawn_of_lem first i h most = go (is_short (position_of (section_of ss i))) refl
    where
      go : (t : Bool) → is_short (position_of (section_of ss i)) ≡ t → of_section (drawn ss ns first) i ≡ cond t (entry first i) 0
      go true e = drawn_section ss ns first i e (omega (arith, most, reach i h e))
      go false e =
          sum_nothing ◌+◌ 0 naturals (length ns) _
          (λ k l.
          under_none (eqb (notice_of ns k).section i) (entry (drawn ss ns first) k)
          (λ s. drawn_ignored ss ns first k (ap (λ (j : ℕ). is_short (position_of (section_of ss j))) (eqb-true (notice_of ns k).section i s) ∙ e)))

  -- inside and outside lots of a section, by its notices
  inside_of : (i : ℕ) → i < length ss → of_section inside i ≡ cond (is_short (position_of (section_of ss i))) (entry near i) 0
  inside_of i h = drawn_of_lem near i h (near_below i)

  beyond_of : (i : ℕ) → i < length ss → of_section beyond i ≡ cond (is_short (position_of (section_of ss i))) (entry far i) 0
  beyond_of i h =
      omega (
        arith,
        inside_of i h,
        drawn_of_lem kept i h (omega arith),
        under_sum (is_short (position_of (section_of ss i))) (entry near i) (entry far i) (entry kept i) (near_far i),
        sum_both ◌+◌ 0 naturals (length ns) (λ (k : ℕ). cond (eqb (notice_of ns k).section i) (entry inside k) 0) (λ (k : ℕ). cond (eqb (notice_of ns k).section i) (entry beyond k) 0),
        sum_same ◌+◌ 0 naturals (length ns) _ _ (λ k l. under_sum (eqb (notice_of ns k).section i) (entry inside k) (entry beyond k) (entry (drawn ss ns kept) k) (inside_beyond k)),
      )

  -- what is drawn, section by section
  by_section : (read : ℕ → ℕ) → total (listed (length ss) (λ (i : ℕ). total (listed (length ns) (λ (k : ℕ). cond (eqb (notice_of ns k).section i) (read k) 0)))) ≡ total (listed (length ns) read)
  by_section read = sum_classes ◌+◌ 0 naturals (length ns) (length ss) (λ (k : ℕ). (notice_of ns k).section) read sections

  -- the inside pass of a code is even, and so is the outside pass
  inside_drawn : (c : ℕ) → total (inside_pass ss ns near inside c).drawn ≡ side_of ss is_short c near
  unfolding inside_pass
  inside_drawn c =
      sym (by_section (λ (k : ℕ). cond (eqb (section_of ss (notice_of ns k).section).settlement c) (entry inside k) 0))
      ∙ sum_same ◌+◌ 0 naturals (length ss) _ _ (λ i h. one i h (eqb (section_of ss i).settlement c) refl)
    where
      one : (i : ℕ) → i < length ss → (t : Bool) → eqb (section_of ss i).settlement c ≡ t → total (listed (length ns) (λ (k : ℕ). cond (eqb (notice_of ns k).section i) (cond (eqb (section_of ss (notice_of ns k).section).settlement c) (entry inside k) 0) 0)) ≡ cond (is_short (position_of (section_of ss i)) && eqb (section_of ss i).settlement c) (entry near i) 0
      one i h t e =
          sum_same ◌+◌ 0 naturals (length ns) _ _ (λ k l. turned k)
          ∙ sum_under ◌+◌ 0 naturals (length ns) t (λ (k : ℕ). cond (eqb (notice_of ns k).section i) (entry inside k) 0)
          ∙ ap (λ (n : ℕ). cond t n 0) (inside_of i h)
          ∙ sym (under_two (is_short (position_of (section_of ss i))) t (entry near i))
          ∙ ap (λ (u : Bool). cond (is_short (position_of (section_of ss i)) && u) (entry near i) 0) (sym e)
        where
          turned : (k : ℕ) → cond (eqb (notice_of ns k).section i) (cond (eqb (section_of ss (notice_of ns k).section).settlement c) (entry inside k) 0) 0 ≡ cond t (cond (eqb (notice_of ns k).section i) (entry inside k) 0) 0
          turned k =
              under_same (eqb (notice_of ns k).section i) _ _ (λ s. ap (λ (u : Bool). cond u (entry inside k) 0) (ap (λ (j : ℕ). eqb (section_of ss j).settlement c) (eqb-true (notice_of ns k).section i s) ∙ e))
              ∙ under_swapped (eqb (notice_of ns k).section i) t (entry inside k)

  beyond_length : length beyond ≡ length ns
  unfolding drawn
  beyond_length = listed-length (length (drawn ss ns kept)) _ ∙ listed-length (length ns) _

  outside_drawn : total (outside_pass ss far beyond).drawn ≡ all_of ss is_short far
  unfolding outside_pass
  outside_drawn =
      sym (total_long beyond (length ns) beyond_length)
      ∙ sym (by_section (entry beyond))
      ∙ sum_same ◌+◌ 0 naturals (length ss) _ _ (λ i h. beyond_of i h)

  formed_inside : (c : ℕ) → c < settlement_codes → Formed ss ns (inside_pass ss ns near inside c)
  unfolding inside_pass
  formed_inside c h =
      formed ss ns standing (inside_pass ss ns near inside c) (listed-length (length ss) _) (listed-length (length ns) _) (inside_even ss codes told kept kept_within c h ∙ sym (inside_drawn c))

  formed_outside : Formed ss ns (outside_pass ss far beyond)
  unfolding outside_pass
  formed_outside =
      formed ss ns standing (outside_pass ss far beyond) (listed-length (length ss) _) beyond_length (outside_even ss codes told kept kept_within (kept_even ss ns codes told even) ∙ sym outside_drawn)

  -- a notice has at most what its section's notices have
  its_part : (read : ℕ → ℕ) (k : ℕ) → k < length ns → read k ≤ total (listed (length ns) (λ (j : ℕ). cond (eqb (notice_of ns j).section (notice_of ns k).section) (read j) 0))
  its_part read k h =
      let s = (notice_of ns k).section in
      omega (arith, chosen_yes s s (read k) 0 refl, sum_part (length ns) (λ (j : ℕ). cond (eqb (notice_of ns j).section s) (read j) 0) k h)

  -- a notice with lots outside is of a short section
  outside_short : (k : ℕ) → 0 < entry beyond k → is_short (position_of (section_of ss (notice_of ns k).section)) ≡ true
  outside_short k some = drawn_of_short ss ns kept k (omega (arith, some, inside_beyond k))

  split : Split ss ns near far inside beyond
  split =
      record {
        one_section = one_split_section ss codes told kept kept_within;
        one_side = λ c. ⊎_elim (λ (h : c < settlement_codes). one_stays ss codes told kept kept_within c h) (λ (h : settlement_codes ≤ c). inl (λ i below e long. absurd (omega (arith, h, codes i below, e)))) (below_or_not c settlement_codes);
        one_notice = one_split ss ns near kept near_below;
        of_inside =
            λ k h some.
            let short = drawn_of_short ss ns near k some in
            (short, omega (arith, some, its_part (entry inside) k h, inside_of (notice_of ns k).section (sections k h) ∙ ap (λ (t : Bool). cond t (entry near (notice_of ns k).section) 0) short));
        of_outside =
            λ k h some.
            let short = outside_short k some in
            (short, omega (arith, some, its_part (entry beyond) k h, beyond_of (notice_of ns k).section (sections k h) ∙ ap (λ (t : Bool). cond t (entry far (notice_of ns k).section) 0) short));
      }

  -- the register's lines are those of the passes
  lines_are : lines ss ns ≡ all_lines ss ns near far inside beyond
  unfolding lines passes
  lines_are = refl

  -- what is drawn of a notice, inside and outside
  abbrev pub drawn_at : ℕ → ℕ
  drawn_at k = entry inside k + entry beyond k

  -- all that is drawn of a section's notices
  drawn_for_lem : (i : ℕ) → i < length ss → (t : Bool) → is_short (position_of (section_of ss i)) ≡ t → drawn_for ss ns near far inside beyond i ≡ cond t (entry near i + entry far i) 0
  drawn_for_lem i h t e =
      sum_same ◌+◌ 0 naturals (length ns) _ _ (λ k l. ap (λ (n : ℕ). cond (eqb (notice_of ns k).section i) n 0) (inside_beyond k))
      ∙ drawn_of_lem kept i h (omega arith)
      ∙ ap₂ (λ (u : Bool) (n : ℕ). cond u n 0) e (sym (near_far i))

  -- a section's lots in the lines formed are those that it is left with
  pub registered : (i : ℕ) → i < length ss → line_lots (λ (l : Line). eqb l.buyer i || eqb l.seller i) (lines ss ns) ≡ entry (remaining ss ns) i
  registered i h =
      ap (λ (ls : List Line). line_lots (λ (l : Line). eqb l.buyer i || eqb l.seller i) ls) lines_are
      ∙ register_section ss ns near far inside beyond codes sections formed_inside formed_outside i h
      (λ long. drawn_for_lem i h false (long_not_short (position_of (section_of ss i)) long))
      (drawn_for_lem i h true)
      (λ long short. (drawn_for_lem i h false short, omega (arith, near_far i, kept_within i, even_position (position_of (section_of ss i)) long short)))
      ∙ near_far i

  -- it only buys or only sells
  pub one_sided : (i : ℕ) → i < length ss → (line_lots (λ (l : Line). eqb l.seller i) (lines ss ns) ≡ 0) ⊎ (line_lots (λ (l : Line). eqb l.buyer i) (lines ss ns) ≡ 0)
  one_sided i h = go (is_long p) refl
    where
      p : ℤ
      p = position_of (section_of ss i)

      of_lines : (test : Line → Bool) → line_lots test (lines ss ns) ≡ line_lots test (all_lines ss ns near far inside beyond)
      of_lines test = ap (λ (ls : List Line). line_lots test ls) lines_are

      go : (long : Bool) → is_long p ≡ long → (line_lots (λ (l : Line). eqb l.seller i) (lines ss ns) ≡ 0) ⊎ (line_lots (λ (l : Line). eqb l.buyer i) (lines ss ns) ≡ 0)
      go true e =
          inl
          (of_lines (λ (l : Line). eqb l.seller i)
          ∙ notice_lots ss ns near far inside beyond codes sections formed_inside formed_outside (λ (s e : ℕ). eqb s i)
          ∙ drawn_for_lem i h false (long_not_short p e))
      go false e =
          inr
          (of_lines (λ (l : Line). eqb l.buyer i)
          ∙ buyer_lots ss ns near far inside beyond codes sections formed_inside formed_outside i h
          ∙ ap (λ (t : Bool). cond t (entry near i + entry far i) 0) e)

  -- what is drawn of the notices that pass a test is in the lines of their sections and standing
  pub noticed_lots : (test : ℕ → ℕ → Bool) → line_lots (λ (l : Line). test l.seller l.elevator) (lines ss ns) ≡ total (listed (length ns) (λ (k : ℕ). cond (test (notice_of ns k).section (notice_of ns k).elevator) (drawn_at k) 0))
  noticed_lots test = ap (λ (ls : List Line). line_lots (λ (l : Line). test l.seller l.elevator) ls) lines_are ∙ notice_lots ss ns near far inside beyond codes sections formed_inside formed_outside test

  pub both_within : (k : ℕ) → drawn_at k ≤ nat_abs (notice_of ns k).lots.0
  both_within = drawn_within ss ns near kept near_below

  -- the lines are fewer than the delivering long sections and the drawn notices together
  pub lines_below : 0 < length (lines ss ns) → length (lines ss ns) + 1 ≤ many (length ss) (λ (i : ℕ). is_long (position_of (section_of ss i)) and ltb 0 (entry (remaining ss ns) i)) + many (length ns) (λ (k : ℕ). ltb 0 (drawn_at k))
  unfolding many
  lines_below some =
      subst (λ (ls : List Line). 0 < length ls → length ls + 1 ≤ many (length ss) (λ (i : ℕ). is_long (position_of (section_of ss i)) and ltb 0 (entry kept i)) + many (length ns) (λ (k : ℕ). ltb 0 (drawn_at k))) (sym lines_are)
      (λ more. subst (λ (n : ℕ). length (all_lines ss ns near far inside beyond) + 1 ≤ n + many (length ns) (λ (k : ℕ). ltb 0 (drawn_at k))) delivering (lines_few ss ns near far inside beyond codes sections formed_inside formed_outside split more))
      some
    where
      delivering : many (length ss) (λ (i : ℕ). is_long (position_of (section_of ss i)) and ltb 0 (entry near i + entry far i)) ≡ many (length ss) (λ (i : ℕ). is_long (position_of (section_of ss i)) and ltb 0 (entry kept i))
      delivering = many-same (length ss) _ _ (λ i h. ap (λ (n : ℕ). is_long (position_of (section_of ss i)) && ltb 0 n) (near_far i))

  -- where a notice is drawn some section is short, so not all are long
  some_short : (k : ℕ) → k < length ns → 0 < drawn_at k → many (length ss) (λ (i : ℕ). is_long (position_of (section_of ss i)) and ltb 0 (entry (remaining ss ns) i)) + 1 ≤ length ss
  some_short k h some =
      let short : is_short (position_of (section_of ss (notice_of ns k).section)) ≡ true =
      ⊎_elim (λ (l : 0 < entry inside k). drawn_of_short ss ns near k l) (λ (l : entry inside k ≤ 0). outside_short k (omega (arith, some, l))) (below_or_not 0 (entry inside k)) in
      many_fewer (length ss) _ (notice_of ns k).section (sections k h) (ap (λ (t : Bool). t && ltb 0 (entry kept (notice_of ns k).section)) (short_not_long (position_of (section_of ss (notice_of ns k).section)) short))

  -- so the register has room for every line
  pub lines_most : length ss ≤ section_places → length ns ≤ notice_places → length (lines ss ns) ≤ register_places
  lines_most few-sections few_notices = ⊎_elim some_lines (λ (h : length (lines ss ns) ≤ 0). omega (arith, h)) (below_or_not 0 (length (lines ss ns)))
    where
      drawing : ℕ
      drawing = many (length ns) (λ (k : ℕ). ltb 0 (drawn_at k))

      some_lines : 0 < length (lines ss ns) → length (lines ss ns) ≤ register_places
      some_lines more =
          ⊎_elim
          (λ (h : 0 < drawing).
          let it = many-some (length ns) (λ (k : ℕ). ltb 0 (drawn_at k)) h in
          omega (arith, lines_below more, some_short it.0 it.1 (ltb-true 0 (drawn_at it.0) it.2), many_most (length ns) (λ (k : ℕ). ltb 0 (drawn_at k)), few-sections, few_notices))
          (λ (h : drawing ≤ 0). omega (arith, h, lines_below more, many_most (length ss) (λ (i : ℕ). is_long (position_of (section_of ss i)) and ltb 0 (entry (remaining ss ns) i)), few-sections))
          (below_or_not 0 drawing)
