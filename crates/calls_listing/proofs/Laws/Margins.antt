-- A row whose last fields are whole numbers, as a loop writes it (01, Program, 3).
use Rattle.numbers.proofs.Words.{ℕ, zero, suc, ◌+◌, ◌≤◌, ◌<◌, arith, ◌≡◌, refl, sym, ap, ap₂, ◌∙◌, Bool, cond, List, [], ◌∷◌, ◌++◌, map, append_assoc, append-nil, flat_map, counted, length, lt-ltb, le-ltb, ℤ, entry_ℤ}
use Rattle.numbers.specs.Text.{signed_decimal}
use Rattle.numbers.proofs.Tests.{ltb_as}
use Rattle.rules.specs.Listing.{row}
use Rattle.listing.specs.Columns.{field}
use Rattle.listing.proofs.Laws.Rows.{texts, texts_more, texts_same}
use Rattle.calls_listing.specs.Texts.{end_at, whole_at, wholes}

-- the first text and the others
texts_first : (f : ℕ → List ℕ) (n : ℕ) → texts f (suc n) ≡ f 0 ++ texts (λ (i : ℕ). f (suc i)) n
unfolding flat_map counted
texts_first f zero = refl
texts_first f (suc n) =
    let later : ℕ → List ℕ = λ (i : ℕ). f (suc i) in
    texts_more f (suc n)
    ∙ ap (λ (t : List ℕ). t ++ f (suc n)) (texts_first f n)
    ∙ append_assoc (f 0) (texts later n) (f (suc n))
    ∙ ap (λ (t : List ℕ). f 0 ++ t) (sym (texts_more later n))

-- a row's first field and the others
row_more : (first second : List ℕ) (fields : List (List ℕ)) → row (first ∷ second ∷ fields) ≡ field first 32 ++ row (second ∷ fields)
unfolding row
row_more first second fields = sym (append_assoc first (32 ∷ []) (row (second ∷ fields)))

-- a space before another field, and the row's end after the last
pub end_between : (i n : ℕ) → i < n → 32 ≡ end_at i n
end_between i n h = sym (ap (λ (t : Bool). cond {A = ℕ} t 32 10) (lt-ltb i n h))

pub end_last : (i n : ℕ) → n ≤ i → 10 ≡ end_at i n
end_last i n h = sym (ap (λ (t : Bool). cond {A = ℕ} t 32 10) (le-ltb i n h))

-- one field more before it, and one more in all
end_later : (i j n : ℕ) → j ≡ suc i → end_at j (suc n) ≡ end_at i n
end_later i j n e = ap (λ (t : Bool). cond {A = ℕ} t 32 10) (ltb_as j (suc n) i n (λ h. omega (arith, e, h)) (λ h. omega (arith, e, h)))

-- the first number and the others
wholes_more : (z : ℤ) (zs : List ℤ) → wholes (z ∷ zs) ≡ field (signed_decimal z) (end_at 0 (length zs)) ++ wholes zs
wholes_more z zs =
    texts_first (whole_at (z ∷ zs)) (length zs)
    ∙ ap₂ ◌++◌ (ap (field (signed_decimal z)) (end_later 0 (0 + 1) (length zs) (omega arith)))
    (texts_same (λ (i : ℕ). whole_at (z ∷ zs) (suc i)) (whole_at zs) (length zs) (λ i h. ap (field (signed_decimal (entry_ℤ zs i))) (end_later (i + 1) (suc i + 1) (length zs) (omega arith))))

-- a word, and whole numbers after it
pub wholes_row : (word : List ℕ) (zs : List ℤ) → row (word ∷ map signed_decimal zs) ≡ field word (end_at 0 (length zs)) ++ wholes zs
unfolding row flat_map counted
wholes_row word [] = sym (append-nil (field word 10))
wholes_row word (z ∷ zs) =
    row_more word (signed_decimal z) (map signed_decimal zs)
    ∙ ap₂ (λ (end : ℕ) (rest : List ℕ). field word end ++ rest) (end_between 0 (suc (length zs)) (omega arith))
    (wholes_row (signed_decimal z) zs ∙ sym (wholes_more z zs))
