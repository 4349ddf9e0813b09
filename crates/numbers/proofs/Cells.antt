-- A list of known length, cell by cell.
use Rattle.numbers.proofs.Words.{ℕ, zero, suc, ◌+◌, ◌≤◌, ◌<◌, arith, ◌≡◌, refl, sym, ap, ap₂, ◌∙◌, List, [], ◌∷◌, length, get_or, take, drop, length-take, length-drop, get_or-take, get_or-drop}

module _ {A : Type 0} where
  -- the list of f 0, f 1, .. up to so many
  abbrev pub table : ℕ → (ℕ → A) → List A
  table zero f = []
  table (suc count) f = f 0 ∷ table count (λ (i : ℕ). f (suc i))

  pub cells : (l : List A) (d : A) (count : ℕ) → length l ≡ count → l ≡ table count (λ (i : ℕ). get_or l i d)
  cells [] d zero e = refl
  cells [] d (suc count) e = absurd (omega arith)
  cells (x ∷ l) d zero e = absurd (omega arith)
  cells (x ∷ l) d (suc count) e = ap (λ (r : List A). x ∷ r) (cells l d count (omega arith))

  table_same : (count : ℕ) (f g : ℕ → A) → ((i : ℕ) → i < count → f i ≡ g i) → table count f ≡ table count g
  table_same zero f g h = refl
  table_same (suc count) f g h =
      ap₂ ◌∷◌ (h 0 (omega arith)) (table_same count (λ (i : ℕ). f (suc i)) (λ (i : ℕ). g (suc i)) (λ i k. h (suc i) (omega arith)))

  -- so many cells from a place on
  pub part_cells : (l : List A) (d : A) (at count : ℕ) → at + count ≤ length l → take count (drop at l) ≡ table count (λ (i : ℕ). get_or l (at + i) d)
  part_cells l d at count h =
      cells (take count (drop at l)) d count (simp (length-take, length-drop) (omega arith)) ∙
      table_same count _ _ (λ i k. get_or-take count (drop at l) i d k ∙ get_or-drop at l i d)

  -- two lists have the same part where they have the same cells
  pub part_same : (l m : List A) (d : A) (at count : ℕ) → at + count ≤ length l → at + count ≤ length m
      → ((i : ℕ) → at ≤ i → i < at + count → get_or l i d ≡ get_or m i d) → take count (drop at l) ≡ take count (drop at m)
  part_same l m d at count hl hm h =
      part_cells l d at count hl ∙ table_same count _ _ (λ i k. h (at + i) (omega arith) (omega arith)) ∙ sym (part_cells m d at count hm)
