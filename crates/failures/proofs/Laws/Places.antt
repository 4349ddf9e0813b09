-- The first place at which a key stands, place after place.
use Rattle.numbers.proofs.Words.{ℕ, suc, ◌+◌, ◌-◌, ◌≤◌, ◌<◌, add-one, arith, ◌≡◌, sym, ap, ◌∙◌, Bool, cond, List, ◌∷◌, eqb, eq-eqb, ne_eqb, length, get_or, passing, counted, entry}
use Rattle.rules.specs.Failures.{no_section}
use Rattle.failures.specs.Meant.{places_from, place_of}

module _ (keys : List ℕ) (key : ℕ) where
  -- the places from one on
  abbrev pub later : ℕ → List ℕ
  later i = places_from keys key i (length keys - i)

  -- none stands before a place
  abbrev pub NoneBefore : ℕ → Type 0
  NoneBefore i = place_of keys key ≡ get_or (later i) 0 no_section

  pub none_yet : NoneBefore 0
  unfolding place_of
  none_yet = ap (λ (left : ℕ). get_or (places_from keys key 0 left) 0 no_section) (omega arith)

  -- a place, and those after it
  later_next : (i : ℕ) → i < length keys → later i ≡ cond (eqb (entry keys i) key) (i ∷ later (i + 1)) (later (i + 1))
  unfolding passing counted
  later_next i h =
      let one_more : length keys - i ≡ suc (length keys - (i + 1)) = omega (arith, h) in
      ap (places_from keys key i) one_more
      ∙ ap (λ (next : ℕ). cond (eqb (entry keys i) key) (i ∷ places_from keys key next (length keys - (i + 1))) (places_from keys key next (length keys - (i + 1)))) (sym (add-one i))

  module _ (i : ℕ) (before : NoneBefore i) where
    pub found : i < length keys → entry keys i ≡ key → i ≡ place_of keys key
    found h same = sym (before ∙ ap (λ (is : List ℕ). get_or is 0 no_section) (later_next i h ∙ ap (λ (t : Bool). cond t (i ∷ later (i + 1)) (later (i + 1))) (eq-eqb _ _ same)))

    pub passed : i < length keys → (entry keys i ≡ key → ⊥) → NoneBefore (i + 1)
    passed h other = before ∙ ap (λ (is : List ℕ). get_or is 0 no_section) (later_next i h ∙ ap (λ (t : Bool). cond t (i ∷ later (i + 1)) (later (i + 1))) (ne_eqb _ _ other))

    pub nowhere : length keys ≤ i → no_section ≡ place_of keys key
    unfolding passing counted
    nowhere past =
        let none : length keys - i ≡ 0 = omega (arith, past) in
        sym (before ∙ ap (λ (left : ℕ). get_or (places_from keys key i left) 0 no_section) none)
