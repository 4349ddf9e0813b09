-- The place of the largest entry, found by a scan of the list: its start, one turn, and its end.
use Rattle.numbers.proofs.Words.{ℕ, ◌+◌, ◌≤◌, ◌<◌, add-one, arith, ◌≡◌, refl, sym, ap, ◌∙◌, Bool, true, false, cond, ◌&&◌, ◌||◌, List, ltb, eqb, length, drop, drop_of_length-le, entry, largest_from, largest}
use Rattle.numbers.proofs.Lists.{has, from_here}

module _ (earlier : ℕ → ℕ → Bool) (xs : List ℕ) where
  -- after i entries
  abbrev pub Scan : ℕ → ℕ → Type 0
  Scan best i = (i ≤ length xs) × (best ≤ i) × (largest_from earlier xs best i (drop i xs) ≡ largest earlier xs)

  pub scan_start : Scan 0 0
  unfolding largest
  scan_start = (omega arith, omega arith, refl)

  within : (t : Bool) (best i : ℕ) → best ≤ i → cond t i best ≤ i + 1
  within true best i h = omega arith
  within false best i h = omega (arith, h)

  -- one entry more
  pub scan_next : (best i next own most : ℕ) (first : Bool) → i < length xs → Scan best i → own ≡ entry xs i → most ≡ entry xs best → first ≡ earlier i best
      → next ≡ cond (ltb most own || eqb most own && first) i best → Scan next (i + 1)
  unfolding largest_from
  scan_next best i next own most first h s e₁ e₂ e₃ e =
      let test = ltb (entry xs best) (entry xs i) || eqb (entry xs best) (entry xs i) && earlier i best in
      let chosen : next ≡ cond test i best = rw (e, e₁, e₂, e₃) in (
        omega (arith, h),
        rw chosen (within test best i s.1),
        ap (λ (n : ℕ). largest_from earlier xs n (i + 1) (drop (i + 1) xs)) chosen
            ∙ ap (λ (m : ℕ). largest_from earlier xs (cond test i best) m (drop (i + 1) xs)) (add-one i)
            ∙ sym (ap (largest_from earlier xs best i) (from_here (has xs i 0 h)))
            ∙ s.2,
      )

  -- all entries
  pub scan_end : (best i : ℕ) → length xs ≤ i → Scan best i → best ≡ largest earlier xs
  unfolding largest_from
  scan_end best i h s = sym (ap (largest_from earlier xs best i) (drop_of_length-le xs h)) ∙ s.2
