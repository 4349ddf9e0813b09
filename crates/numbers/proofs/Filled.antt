-- A list that is filled by number: entry i becomes f i, one turn after the other.
use Rattle.numbers.proofs.Words.{ℕ, suc, ◌+◌, ◌≤◌, ◌<◌, add-one, arith, ◌≡◌, refl, sym, ap, ap₂, ◌∙◌, List, ◌++◌, append_assoc, append-nil, length, get_or, set, drop, drop_of_length-le, length-append, length-drop, drop-cons, set_at, get_or_at, counted, listed, over}
use Rattle.numbers.proofs.Ranges.{listed_more, listed-length}

-- after i turns
abbrev pub partly : {A : Type 0} → (ℕ → A) → List A → ℕ → List A
partly f was i = listed i f ++ drop i was

module _ {A : Type 0} (f : ℕ → A) (was : List A) where
  pub partly_start : was ≡ partly f was 0
  unfolding counted
  partly_start = refl

  -- one turn more
  pub partly_next : (i : ℕ) → i < length was → set (partly f was i) i (f i) ≡ partly f was (i + 1)
  partly_next i h =
      ap (λ (rest : List A). set (listed i f ++ rest) i (f i)) (drop-cons was i (f i) h)
      ∙ set_at (listed i f) (get_or was i (f i)) (drop (suc i) was) (f i) i (listed-length i f)
      ∙ rw (add-one, listed_more i f, append_assoc)

  -- what is not partly yet is as it was
  pub partly_here : (i : ℕ) (d : A) → i < length was → get_or (partly f was i) i d ≡ get_or was i d
  partly_here i d h =
      ap (λ (rest : List A). get_or (listed i f ++ rest) i d) (drop-cons was i d h)
      ∙ get_or_at (listed i f) (get_or was i d) (drop (suc i) was) d i (listed-length i f)

  pub partly_length : (i : ℕ) → i ≤ length was → length (partly f was i) ≡ length was
  partly_length i h = length-append (listed i f) (drop i was) ∙ omega (arith, listed-length i f, length-drop i was)

  -- and at the end
  pub partly_end : (i : ℕ) → length was ≤ i → partly f was i ≡ listed i f
  partly_end i h = ap (λ (rest : List A). listed i f ++ rest) (drop_of_length-le was h) ∙ append-nil (listed i f)

-- the same as what a loop keeps of the list that it has filled so far
pub record Filled {A : Type 0} (f : ℕ → A) (was now : List A) (i : ℕ) : Type 0 where
  pub within : i ≤ length was
  pub entries : now ≡ partly f was i

pub filled_none : {A : Type 0} (f : ℕ → A) (was : List A) → Filled f was was 0
filled_none f was = record { within = omega arith; entries = partly_start f was }

module _ {A : Type 0} {f : ℕ → A} {was now : List A} {i : ℕ} (filled : Filled f was now i) where
  pub filled_length : length now ≡ length was
  filled_length = ap length filled.entries ∙ partly_length f was i filled.within

  pub filled_next : i < length was → (x : A) → x ≡ f i → Filled f was (set now i x) (i + 1)
  filled_next h x e = record { within = omega (arith, h); entries = ap₂ (λ (l : List A) (y : A). set l i y) filled.entries e ∙ partly_next f was i h }

  pub filled_here : i < length was → (d : A) → get_or now i d ≡ get_or was i d
  filled_here h d = ap (λ (l : List A). get_or l i d) filled.entries ∙ partly_here f was i d h

  pub filled_end : length was ≤ i → (n : ℕ) → length was ≡ n → now ≡ listed n f
  filled_end past n e = filled.entries ∙ partly_end f was i past ∙ ap (λ (m : ℕ). listed m f) (omega (arith, past, e, filled.within))

  -- and where only its first entries are filled
  pub filled_over : (n : ℕ) → i ≡ n → now ≡ over (listed n f) was
  filled_over n e = filled.entries ∙ ap₂ (λ (m k : ℕ). listed m f ++ drop k was) e (e ∙ sym (listed-length n f))
