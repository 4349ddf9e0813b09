-- The register's lines are fewer than the delivering long sections and the drawn notices together.
use Rattle.numbers.proofs.Words.{ℕ, ◌+◌, ◌≤◌, ◌<◌, arith, ◌≡◌, refl, sym, ap, ◌∙◌, Bool, true, false, cond, false≢true, List, ◌⊎◌, ⊎_elim, eqb, ltb, length, lt-ltb, eqb-true, eq-eqb, ◌and◌, listed, entry, gathered, total, many}
use Rattle.rules.specs.declared.book.{Section.Section, Notice.Notice}
use Rattle.numbers.proofs.Ranges.{listed_at, chosen_yes, sum_nothing, sum_both, sum_within, sum_empty}
use Rattle.numbers.proofs.Sums.{naturals}
use Rattle.numbers.proofs.Lists.{empty}
use Rattle.numbers.proofs.Tests.{both, together, below_or_not}
use Rattle.numbers.proofs.Under.{under_sum, under_two, above_under, above_read}
use Rattle.numbers.proofs.Counts.{one, one_above, many-same, many_within, many_nowhere, many_classes, live, live_some, first_in, both_in, in_classes, both_parts, both_within, both_nowhere}
use Rattle.rules.specs.Book.{settlement_codes, position_of, section_of, notice_of}
use Rattle.rules.specs.Expiry.{is_long, is_short}
use Rattle.rules.specs.Expiry.Passes.{Line, Pass, lines_of, inside_pass, outside_pass}
use Rattle.method_laws.proofs.StageTwo.{line_lots}
use Rattle.method_laws.proofs.Formed.{Formed}
use Rattle.method_laws.proofs.Register.{inside_at, outside_all, all_lines, all_length}

-- what the steps promise of the lots that stay inside (`near`, by section; `inside`, by notice) and go outside (`far`, `outside`): in a code at most one section is split, only
-- one side goes outside, and of a short section's notices at most one is split
pub record Split (ss : List Section) (ns : List Notice) (near far inside outside : List ℕ) : Type 0 where
  pub one_section : (c : ℕ) → many (length ss) (λ (i : ℕ). eqb (section_of ss i).settlement c and ltb 0 (entry near i) and ltb 0 (entry far i)) ≤ 1
  pub one_side : (c : ℕ)
      → ((i : ℕ) → i < length ss → (section_of ss i).settlement ≡ c → is_long (position_of (section_of ss i)) ≡ true → entry far i ≡ 0)
      ⊎ ((i : ℕ) → i < length ss → (section_of ss i).settlement ≡ c → is_short (position_of (section_of ss i)) ≡ true → entry far i ≡ 0)
  pub one_notice : (i : ℕ) → many (length ns) (λ (k : ℕ). eqb (notice_of ns k).section i and ltb 0 (entry inside k) and ltb 0 (entry outside k)) ≤ 1
  -- a notice is drawn inside only where its section is short and has lots inside, and so outside
  pub of_inside : (k : ℕ) → k < length ns → 0 < entry inside k → (is_short (position_of (section_of ss (notice_of ns k).section)) ≡ true) × (0 < entry near (notice_of ns k).section)
  pub of_outside : (k : ℕ) → k < length ns → 0 < entry outside k → (is_short (position_of (section_of ss (notice_of ns k).section)) ≡ true) × (0 < entry far (notice_of ns k).section)

-- a pass with lines has fewer of them than buyers and notices, and one with none has no lots
module _ (ss : List Section) (ns : List Notice) (pass : Pass) (formed : Formed ss ns pass) where
  few_lines : length (lines_of ss ns pass) + one (ltb 0 (length (lines_of ss ns pass))) ≤ live (length ss) (entry pass.buyers) + live (length ns) (entry pass.drawn)
  few_lines =
      let here = one_above (length (lines_of ss ns pass)) in
      ⊎_elim (λ e. omega (arith, ap length e, here)) (λ h. omega (arith, h, here)) formed.few

  module _ (none : length (lines_of ss ns pass) ≡ 0) where
    no_buyer : (b : ℕ) → entry pass.buyers b ≡ 0
    unfolding gathered
    no_buyer b = sym (formed.by_buyer b) ∙ ap (line_lots (λ (l : Line). eqb l.buyer b)) (empty (lines_of ss ns pass) none)

    no_drawn : (k : ℕ) → k < length ns → entry pass.drawn k ≡ 0
    unfolding gathered
    no_drawn = sum_empty (length ns) (entry pass.drawn) (sym (formed.by_notice (λ (seller elevator : ℕ). true)) ∙ ap (line_lots (λ (l : Line). true)) (empty (lines_of ss ns pass) none))

module _ (ss : List Section) (ns : List Notice) (near far inside outside : List ℕ)
    (codes : (i : ℕ) → i < length ss → (section_of ss i).settlement < settlement_codes) (sections : (k : ℕ) → k < length ns → (notice_of ns k).section < length ss)
    (formed_inside : (c : ℕ) → c < settlement_codes → Formed ss ns (inside_at ss ns near far inside outside c)) (formed_outside : Formed ss ns (outside_all ss ns near far inside outside))
    (split : Split ss ns near far inside outside) where
  -- by section: its code, and what it buys inside and outside; by notice: its section's code
  abbrev long : ℕ → Bool
  long i = is_long (position_of (section_of ss i))

  abbrev code : ℕ → ℕ
  code i = (section_of ss i).settlement

  abbrev bought : List ℕ → ℕ → ℕ
  bought lots i = cond (long i) (entry lots i) 0

  abbrev code_of_notice : ℕ → ℕ
  code_of_notice k = code (notice_of ns k).section

  -- the passes, their lines, and the entries of their lists
  abbrev inside_lines : ℕ → ℕ
  inside_lines c = length (lines_of ss ns (inside_at ss ns near far inside outside c))

  abbrev outside_lines : ℕ
  outside_lines = length (lines_of ss ns (outside_all ss ns near far inside outside))

  buyer_inside : (c i : ℕ) → i < length ss → entry (inside_at ss ns near far inside outside c).buyers i ≡ cond (eqb (code i) c) (bought near i) 0
  unfolding inside_pass
  buyer_inside c i h = listed_at (length ss) _ i 0 h ∙ under_two (long i) (eqb (code i) c) (entry near i)

  drawn_inside_lem : (c k : ℕ) → k < length ns → entry (inside_at ss ns near far inside outside c).drawn k ≡ cond (eqb (code_of_notice k) c) (entry inside k) 0
  unfolding inside_pass
  drawn_inside_lem c k h = listed_at (length ns) _ k 0 h

  buyer_outside : (i : ℕ) → i < length ss → entry (outside_all ss ns near far inside outside).buyers i ≡ bought far i
  unfolding outside_pass
  buyer_outside i h = listed_at (length ss) _ i 0 h

  drawn_outside : (k : ℕ) → entry (outside_all ss ns near far inside outside).drawn k ≡ entry outside k
  unfolding outside_pass
  drawn_outside k = refl

  -- the sections and the notices of a code that are split
  abbrev sections_split : ℕ → ℕ
  sections_split = both_in (length ss) code (bought near) (bought far)

  abbrev notices_split : ℕ → ℕ
  notices_split = both_in (length ns) code_of_notice (entry inside) (entry outside)

  -- a section of a code that is split, long or short
  abbrev crossing : ℕ → ℕ → Bool
  crossing c i = eqb (code i) c and ltb 0 (entry near i) and ltb 0 (entry far i)

  crosses : (c i : ℕ) → code i ≡ c → 0 < entry near i → 0 < entry far i → crossing c i ≡ true
  crosses c i e h k = together (eq-eqb (code i) c e) (together (lt-ltb 0 (entry near i) h) (lt-ltb 0 (entry far i) k))

  sections_few : (c : ℕ) → sections_split c ≤ 1
  sections_few c =
      omega (
        arith,
        both_within (length ss) code (bought near) (bought far) c (crossing c) (λ i h e m k. crosses c i e (above_read (long i) (entry near i) m).1 (above_read (long i) (entry far i) k).1),
        split.one_section c,
      )

  -- the split notices of a section: one, and none where the section is not split
  abbrev split_notice : ℕ → ℕ → Bool
  split_notice c k = eqb (code_of_notice k) c and ltb 0 (entry inside k) and ltb 0 (entry outside k)

  of_section_lem : (c i : ℕ) → many (length ns) (λ (k : ℕ). eqb (notice_of ns k).section i and split_notice c k) ≤ one (crossing c i)
  of_section_lem c i = go (crossing c i) refl
    where
      go : (t : Bool) → crossing c i ≡ t → many (length ns) (λ (k : ℕ). eqb (notice_of ns k).section i and split_notice c k) ≤ one t
      go true e =
          omega (
            arith,
            many_within (length ns) (λ (k : ℕ). eqb (notice_of ns k).section i and split_notice c k) _
                (λ k h t.
                let at = both (eqb (notice_of ns k).section i) (split_notice c k) t in
                together at.0 (both (eqb (code_of_notice k) c) (ltb 0 (entry inside k) and ltb 0 (entry outside k)) at.1).1),
            split.one_notice i,
          )
      go false e =
          omega (
            arith,
            many_nowhere (length ns) (λ (k : ℕ). eqb (notice_of ns k).section i and split_notice c k)
                (λ k h t.
                let at = both (eqb (notice_of ns k).section i) (split_notice c k) t in
                let its = both_parts (length ns) code_of_notice (entry inside) (entry outside) c k at.1 in
                let crossed = crosses c (notice_of ns k).section its.0 (split.of_inside k h its.1).1 (split.of_outside k h its.2).1 in
                false≢true (sym e ∙ ap (crossing c) (sym (eqb-true (notice_of ns k).section i at.0)) ∙ crossed)),
          )

  notices_few : (c : ℕ) → notices_split c ≤ 1
  unfolding many
  notices_few c =
      omega (
        arith,
        many_classes (length ns) (length ss) (λ (k : ℕ). (notice_of ns k).section) (split_notice c) sections,
        sum_within (length ss) (λ (i : ℕ). many (length ns) (λ (k : ℕ). eqb (notice_of ns k).section i and split_notice c k)) (λ (i : ℕ). one (crossing c i)) (λ i h. of_section_lem c i),
        split.one_section c,
      )

  -- in a code one at most is split, section or notice: only one side goes outside
  one_split : (c : ℕ) → sections_split c + notices_split c ≤ 1
  one_split c =
      ⊎_elim
      (λ no_long.
      omega (
        arith,
        both_nowhere (length ss) code (bought near) (bought far) c (λ i h e m k. let out = above_read (long i) (entry far i) k in omega (arith, out.1, no_long i h e out.0)),
        notices_few c,
      ))
      (λ no_short.
      omega (
        arith,
        both_nowhere (length ns) code_of_notice (entry inside) (entry outside) c
            (λ k h e m l. let out = split.of_outside k h l in omega (arith, out.1, no_short (notice_of ns k).section (sections k h) e out.0)),
        sections_few c,
      ))
      (split.one_side c)

  -- a pass with no line splits none
  none_inside : (c : ℕ) → c < settlement_codes → inside_lines c ≡ 0 → sections_split c + notices_split c ≡ 0
  none_inside c h none =
      let pass = inside_at ss ns near far inside outside c in
      omega (
        arith,
        both_nowhere (length ss) code (bought near) (bought far) c
            (λ i l e m k. omega (arith, m, no_buyer ss ns pass (formed_inside c h) none i, buyer_inside c i l, chosen_yes (code i) c (bought near i) 0 e)),
        both_nowhere (length ns) code_of_notice (entry inside) (entry outside) c
            (λ i l e m k. omega (arith, m, no_drawn ss ns pass (formed_inside c h) none i l, drawn_inside_lem c i l, chosen_yes (code_of_notice i) c (entry inside i) 0 e)),
      )

  none_outside : outside_lines ≡ 0 → (c : ℕ) → sections_split c + notices_split c ≡ 0
  none_outside none c =
      let pass = outside_all ss ns near far inside outside in
      omega (
        arith,
        both_nowhere (length ss) code (bought near) (bought far) c (λ i l e m k. omega (arith, k, no_buyer ss ns pass formed_outside none i, buyer_outside i l)),
        both_nowhere (length ns) code_of_notice (entry inside) (entry outside) c (λ i l e m k. omega (arith, k, no_drawn ss ns pass formed_outside none i l, drawn_outside i)),
      )

  -- so over all codes at most as many are split as have lines
  splits_few : total (listed settlement_codes (λ (c : ℕ). sections_split c + notices_split c)) ≤ live settlement_codes inside_lines
  unfolding many
  splits_few =
      sum_within settlement_codes _ _
      (λ c h.
      ⊎_elim (λ (some : 0 < inside_lines c). omega (arith, some, one_above (inside_lines c), one_split c))
      (λ (none : inside_lines c ≤ 0). omega (arith, none_inside c h (omega (arith, none))))
      (below_or_not 0 (inside_lines c)))

  -- a pass's lines, by the sections that buy in it and the notices drawn for it
  abbrev buyers_inside : ℕ → ℕ
  buyers_inside = first_in (length ss) code (bought near) (bought far)

  abbrev notices_inside : ℕ → ℕ
  notices_inside = first_in (length ns) code_of_notice (entry inside) (entry outside)

  inside_few : (c : ℕ) → c < settlement_codes → inside_lines c + one (ltb 0 (inside_lines c)) ≤ buyers_inside c + notices_inside c
  inside_few c h =
      let pass = inside_at ss ns near far inside outside c in
      omega (
        arith,
        few_lines ss ns pass (formed_inside c h),
        many-same (length ss) _ _ (λ i l. ap (ltb 0) (buyer_inside c i l)),
        many-same (length ns) _ _ (λ k l. ap (ltb 0) (drawn_inside_lem c k l)),
      )

  outside_few : outside_lines + one (ltb 0 outside_lines) ≤ live (length ss) (bought far) + live (length ns) (entry outside)
  outside_few =
      omega (
        arith,
        few_lines ss ns (outside_all ss ns near far inside outside) formed_outside,
        many-same (length ss) _ _ (λ i l. ap (ltb 0) (buyer_outside i l)),
        many-same (length ns) _ _ (λ k l. ap (ltb 0) (drawn_outside k)),
      )

  -- over all passes
  all_few : length (all_lines ss ns near far inside outside) + live settlement_codes inside_lines + one (ltb 0 outside_lines)
      ≤ (many (length ss) (λ (i : ℕ). long i and ltb 0 (entry near i + entry far i)) + many (length ns) (λ (k : ℕ). ltb 0 (entry inside k + entry outside k)))
      + total (listed settlement_codes (λ (c : ℕ). sections_split c + notices_split c))
  unfolding many
  all_few =
      omega (
        arith,
        all_length ss ns near far inside outside,
        sum_within settlement_codes _ _ inside_few,
        sum_both ◌+◌ 0 naturals settlement_codes inside_lines (λ (c : ℕ). one (ltb 0 (inside_lines c))),
        sum_both ◌+◌ 0 naturals settlement_codes buyers_inside notices_inside,
        sum_both ◌+◌ 0 naturals settlement_codes sections_split notices_split,
        outside_few,
        in_classes (length ss) code (bought near) (bought far) settlement_codes codes,
        in_classes (length ns) code_of_notice (entry inside) (entry outside) settlement_codes (λ k h. codes (notice_of ns k).section (sections k h)),
        many-same (length ss) (λ (i : ℕ). ltb 0 (bought near i + bought far i)) _ (λ i h. ap (ltb 0) (under_sum (long i) (entry near i) (entry far i) _ refl) ∙ above_under (long i) (entry near i + entry far i)),
      )

  -- the lines are fewer than the long sections that deliver and the notices that are drawn: what is split makes no more lines than there are codes with lines
  pub lines_few : 0 < length (all_lines ss ns near far inside outside)
      → length (all_lines ss ns near far inside outside) + 1
      ≤ many (length ss) (λ (i : ℕ). is_long (position_of (section_of ss i)) and ltb 0 (entry near i + entry far i)) + many (length ns) (λ (k : ℕ). ltb 0 (entry inside k + entry outside k))
  lines_few some =
      ⊎_elim (λ (h : 0 < outside_lines). omega (arith, h, all_few, splits_few, one_above outside_lines))
      (λ (h : outside_lines ≤ 0).
      let none : outside_lines ≡ 0 = omega (arith, h) in
      omega (
        arith,
        all_few,
        sum_nothing ◌+◌ 0 naturals settlement_codes _ (λ c l. none_outside none c),
        live_some settlement_codes inside_lines (omega (arith, some, none, all_length ss ns near far inside outside)),
      ))
      (below_or_not 0 outside_lines)
