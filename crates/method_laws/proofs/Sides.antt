-- Lots by section, summed over the sections that pass a test: the two sides of a code, and its net.
use Rattle.numbers.proofs.Words.{ℕ, zero, suc, ◌+◌, ◌≤◌, ◌<◌, arith, ◌≡◌, refl, sym, ap, ap₂, subst, ◌∙◌, Bool, true, false, cond, ◌&&◌, List, eqb, length, ℤ, pos, negsuc, neg_ℤ, nat_abs, ◌+ℤ◌, ◌-ℤ◌, +ℤ_idl, +ℤ_idr, lt-ltb, le-ltb, ◌and◌, listed, entry, less, total}
use Rattle.rules.specs.declared.book.{Section.Section}
use Rattle.numbers.proofs.Sums.{naturals, wholes}
use Rattle.numbers.proofs.Under.{under_within, under_sum, under_two}
use Rattle.numbers.proofs.Ranges.{listed_under, less_at, sum_same, sum_both, sum_classes, sum_within, sum_difference, total_long}
use Rattle.rules.specs.Book.{position_of, section_of}
use Rattle.rules.specs.Expiry.{size, is_long, is_short, on_side_of, net_of_code, chosen}
use Rattle.method_laws.proofs.Greedy.{of_code}

module _ (ss : List Section) where
  -- the lots of the sections that pass a test
  abbrev pub lots_of : (Section → Bool) → List ℕ → ℕ
  lots_of test xs = total (chosen ss test xs)

  -- of one side of a code, and of one side
  abbrev pub side_of : (ℤ → Bool) → ℕ → List ℕ → ℕ
  side_of side c = lots_of (λ (s : Section). side (position_of s) and eqb s.settlement c)

  abbrev pub all_of : (ℤ → Bool) → List ℕ → ℕ
  all_of side = lots_of (λ (s : Section). side (position_of s))

  -- no section has more lots than its position
  unfoldable pub Within : List ℕ → Type 0
  Within xs = (i : ℕ) → entry xs i ≤ size (section_of ss i)

  -- what is left and what is taken make up what there was
  pub lots_less : (test : Section → Bool) (xs ys : List ℕ) → ((i : ℕ) → entry ys i ≤ entry xs i) → lots_of test (less xs ys) + lots_of test ys ≡ lots_of test xs
  lots_less test xs ys le =
      sym (sum_both ◌+◌ 0 naturals (length ss) _ _)
      ∙ sum_same ◌+◌ 0 naturals (length ss) _ _ (λ i h. under_sum (test (section_of ss i)) (entry (less xs ys) i) (entry ys i) (entry xs i) (omega (arith, less_at xs ys i, le i)))

  -- some of them are at most all
  pub lots_most : (test : Section → Bool) (xs : List ℕ) → length xs ≡ length ss → lots_of test xs ≤ total xs
  lots_most test xs long =
      subst (λ (n : ℕ). lots_of test xs ≤ n) (total_long xs (length ss) long) (sum_within (length ss) _ _ (λ i h. under_within (test (section_of ss i)) (entry xs i)))

  -- a side, code by code
  pub side_classes : (side : ℤ → Bool) (xs : List ℕ) → ((i : ℕ) → i < length ss → (section_of ss i).settlement < 64) → total (listed 64 (λ (c : ℕ). side_of side c xs)) ≡ all_of side xs
  side_classes side xs codes =
      sum_same ◌+◌ 0 naturals 64 _ _ (λ c h. sum_same ◌+◌ 0 naturals (length ss) _ _ (λ i k. under_two (side (position_of (section_of ss i))) (eqb (section_of ss i).settlement c) (entry xs i)))
      ∙ sum_classes ◌+◌ 0 naturals (length ss) 64 (λ (i : ℕ). (section_of ss i).settlement) (λ (i : ℕ). cond (side (position_of (section_of ss i))) (entry xs i) 0) codes

-- lots on the side of a position are its long lots less its short ones
pub on_side_lem : (p : ℤ) (x : ℕ) → x ≤ nat_abs p → on_side_of p x ≡ pos (cond (is_long p) x 0) -ℤ pos (cond (is_short p) x 0)
on_side_lem (pos zero) x h = ap pos (omega (arith, h))
on_side_lem (pos (suc n)) x h = rw (lt-ltb 0 (suc n) (omega arith), le-ltb (suc n) 0 (omega arith)) (sym (+ℤ_idr (pos x)))
on_side_lem (negsuc n) x h = sym (+ℤ_idl (neg_ℤ (pos x)))

both_sides_lem : (p : ℤ) (x : ℕ) → x ≤ nat_abs p → x ≡ cond (is_long p) x 0 + cond (is_short p) x 0
both_sides_lem (pos zero) x h = omega (arith, h)
both_sides_lem (pos (suc n)) x h = rw (lt-ltb 0 (suc n) (omega arith), le-ltb (suc n) 0 (omega arith)) (omega arith)
both_sides_lem (negsuc n) x h = omega arith

module _ (ss : List Section) (xs : List ℕ) (within : (i : ℕ) → entry xs i ≤ size (section_of ss i)) where
  -- a code's net is its long lots less its short lots
  pub net_sides : (c : ℕ) → net_of_code ss xs c ≡ pos (side_of ss is_long c xs) -ℤ pos (side_of ss is_short c xs)
  unfolding net_of_code
  net_sides c =
      sum_same ◌+ℤ◌ (pos 0) wholes (length ss) _ _ (λ i h. one (section_of ss i) (entry xs i) (within i) (eqb (section_of ss i).settlement c))
      ∙ sum_difference (length ss) _ _
    where
      one : (s : Section) (x : ℕ) → x ≤ size s → (t : Bool) → cond t (on_side_of (position_of s) x) (pos 0) ≡ pos (cond (is_long (position_of s) && t) x 0) -ℤ pos (cond (is_short (position_of s) && t) x 0)
      one s x h t =
          by_test t
          ∙ sym (ap₂ (λ (m n : ℕ). pos m -ℤ pos n) (under_two (is_long (position_of s)) t x) (under_two (is_short (position_of s)) t x))
        where
          by_test : (t : Bool) → cond t (on_side_of (position_of s) x) (pos 0) ≡ pos (cond t (cond (is_long (position_of s)) x 0) 0) -ℤ pos (cond t (cond (is_short (position_of s)) x 0) 0)
          by_test true = on_side_lem (position_of s) x h
          by_test false = refl

  -- and its lots are both together
  pub code_sides : (c : ℕ) → of_code ss c xs ≡ side_of ss is_long c xs + side_of ss is_short c xs
  code_sides c =
      sum_same ◌+◌ 0 naturals (length ss) _ _ (λ i h. one (section_of ss i) (entry xs i) (within i) (eqb (section_of ss i).settlement c))
      ∙ sum_both ◌+◌ 0 naturals (length ss) _ _
    where
      one : (s : Section) (x : ℕ) → x ≤ size s → (t : Bool) → cond t x 0 ≡ cond (is_long (position_of s) && t) x 0 + cond (is_short (position_of s) && t) x 0
      one s x h t = sym (ap₂ ◌+◌ (under_two (is_long (position_of s)) t x) (under_two (is_short (position_of s)) t x) ∙ under_sum t _ _ x (sym (both_sides_lem (position_of s) x h)))

-- of the sections that a step takes, each has at most what it had
pub chosen_within : (ss : List Section) (test : Section → Bool) (xs : List ℕ) (i : ℕ) → entry (chosen ss test xs) i ≤ entry xs i
chosen_within ss test xs i = listed_under (length ss) (λ (j : ℕ). test (section_of ss j)) (entry xs) i
