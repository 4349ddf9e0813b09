-- The fields of a row, as the library cuts it at its spaces, and the numbers in them, written into a list as they are read.
use Rattle.std.proofs.Common.{subst}
use Rattle.std.specs.List.{slice_split, onto_first}
use Rattle.numbers.proofs.Lists.{has, from_here}
use Rattle.numbers.proofs.Changed.{every_append}
use Rattle.lastday.specs.Fields.{NumbersRead}
use Rattle.numbers.proofs.Words.{drop, get_or, take-suc, take_all, take-append-drop, map-append, ℕ, zero, suc, ◌+◌, ◌*◌, ◌≤◌, ◌<◌, add-one, arith, ◌≡◌, refl, sym, ap, ap₂, ◌∙◌, Bool, true, false, cond, ◌&&◌, List, [], ◌∷◌, ◌++◌, map, length, length-set, take, set, take-suc-set, eqb, eq-eqb, ltb, ltb-true, every}
use Rattle.numbers.specs.Text.{digits_value, is_number, in_front, parts_of}
use Rattle.numbers.proofs.Tests.{both, together, fails_left, fails_right}
use Rattle.lastday.specs.Rows.{fields_of}

-- the parts of a text with an end put after it are those that the library cuts it into
cut_front : (b : ℕ) (parts : List (List ℕ)) → in_front b parts ≡ onto_first b parts
unfolding in_front
cut_front b [] = refl
cut_front b (part ∷ parts) = refl

cut_parts : (end : ℕ) (bs : List ℕ) → slice_split (λ b. eqb b end) bs ≡ parts_of end (bs ++ (end ∷ []))
unfolding parts_of
cut_parts end [] = sym (ap (λ (t : Bool). cond t ([] ∷ []) (in_front end [])) (eq-eqb end end refl))
cut_parts end (b ∷ bs) =
    ap (λ (ps : List (List ℕ)). cond (eqb b end) ([] ∷ ps) (onto_first b ps)) (cut_parts end bs)
    ∙ ap (λ (ps : List (List ℕ)). cond (eqb b end) ([] ∷ parts_of end (bs ++ (end ∷ []))) ps) (sym (cut_front b (parts_of end (bs ++ (end ∷ [])))))

pub cut_fields : (text : List ℕ) → slice_split (λ b. eqb b 32) text ≡ fields_of text
unfolding fields_of
cut_fields text = cut_parts 32 text

-- a field that a loop over the parts has come to
pub field_here : (text : List ℕ) (count : ℕ) {k : ℕ} (field : List ℕ) → count ≡ k → (k < length (slice_split (λ b. eqb b 32) text)) × (field ≡ get_or (slice_split (λ b. eqb b 32) text) k field)
    → (count < length (fields_of text)) × (field ≡ get_or (fields_of text) count field)
field_here text count {k} field e h =
    let P : List (List ℕ) → Type 0 = λ ps. (k < length ps) × (field ≡ get_or ps k field) in
    rw e (subst P (cut_fields text) h)

-- parts and what ends them come to the text and its end
abbrev sizes : List (List ℕ) → ℕ
sizes [] = 0
sizes (p ∷ ps) = length p + 1 + sizes ps

front_sizes : (b n : ℕ) (ps : List (List ℕ)) → sizes ps ≡ n + 1 → sizes (onto_first b ps) ≡ n + 1 + 1
front_sizes b n [] h = absurd (omega (arith, h))
front_sizes b n (p ∷ ps) h = omega (arith, h)

cut_sizes : (test : ℕ → Bool) (bs : List ℕ) → sizes (slice_split test bs) ≡ length bs + 1
cut_sizes test [] = refl
cut_sizes test (b ∷ bs) = go (test b) (cut_sizes test bs)
  where
    go : (t : Bool) → sizes (slice_split test bs) ≡ length bs + 1 → sizes (cond t ([] ∷ slice_split test bs) (onto_first b (slice_split test bs))) ≡ length (b ∷ bs) + 1
    go true h = omega (arith, h)
    go false h = omega (arith, front_sizes b (length bs) (slice_split test bs) h)

-- a number has a digit at least
some_digit : (word : List ℕ) → is_number word ≡ true → 1 ≤ length word
unfolding is_number
some_digit word h = omega (arith, ltb-true 0 (length word) (both (ltb 0 (length word)) _ h).0)

-- so numbers take two bytes each, with what ends them
numbers_sizes : (n : ℕ) (ps : List (List ℕ)) → n ≤ length ps → every is_number (take n ps) ≡ true → 2 * n ≤ sizes ps
unfolding every
numbers_sizes zero ps h e = omega arith
numbers_sizes (suc n) [] h e = omega (arith, h)
numbers_sizes (suc n) (p ∷ ps) h e =
    let tests = both (is_number p) (every is_number (take n ps)) e in
    omega (arith, some_digit p tests.0, numbers_sizes n ps (omega (arith, h)) tests.1)

every_join : {A : Type 0} (test : A → Bool) (xs ys : List A) → every test (xs ++ ys) ≡ (every test xs && every test ys)
unfolding every
every_join test [] ys = refl
every_join test (x ∷ xs) ys = go (test x) (every_join test xs ys)
  where
    go : (t : Bool) → every test (xs ++ ys) ≡ (every test xs && every test ys) → (t && every test (xs ++ ys)) ≡ ((t && every test xs) && every test ys)
    go true e = e
    go false e = refl

-- so many fields are read, and each is a number
pub record Reading (text numbers : List ℕ) (count : ℕ) : Type 0 where
  pub place : count ≤ length (fields_of text)
  pub good : every is_number (take count (fields_of text)) ≡ true
  pub values : take count numbers ≡ map digits_value (take count (fields_of text))
  pub long : length numbers ≡ 2_048

pub reading_start : (text numbers : List ℕ) → length numbers ≡ 2_048 → Reading text numbers 0
unfolding every
reading_start text numbers long = record { place = omega arith; good = refl; values = refl; long = long }

-- one field more
module _ {text numbers : List ℕ} {count : ℕ} (r : Reading text numbers count) (inside : count < length (fields_of text)) (field d : List ℕ) (here : field ≡ get_or (fields_of text) count d) where
  one_more : take (count + 1) (fields_of text) ≡ take count (fields_of text) ++ (field ∷ [])
  one_more = ap (λ (n : ℕ). take n (fields_of text)) (add-one count) ∙ take-suc (fields_of text) count d inside ∙ ap (λ (f : List ℕ). take count (fields_of text) ++ (f ∷ [])) (sym here)

  good_next : is_number field ≡ true → every is_number (take (count + 1) (fields_of text)) ≡ true
  unfolding every
  good_next is = ap (every is_number) one_more ∙ every_append is_number (take count (fields_of text)) (field ∷ []) r.good (together is refl)

  -- there is a place for its number
  pub reading_room : is_number field ≡ true → length text ≤ 4_096 → count < length numbers
  reading_room is fit =
      omega (arith, r.long, fit, ap sizes (sym (cut_fields text)), cut_sizes (λ b. eqb b 32) text, numbers_sizes (count + 1) (fields_of text) (omega (arith, inside)) (good_next is))

  pub reading_next : is_number field ≡ true → length text ≤ 4_096 → {n : ℕ} → n ≡ digits_value field → Reading text (set numbers count n) (count + 1)
  reading_next is fit {n} e =
      record {
        place = omega (arith, inside);
        good = good_next is;
        values =
            ap (λ (m : ℕ). take m (set numbers count n)) (add-one count) ∙ take-suc-set numbers count n (reading_room is fit)
            ∙ ap₂ (λ (ns : List ℕ) (m : ℕ). ns ++ (m ∷ [])) r.values e
            ∙ sym (ap (map digits_value) one_more ∙ map-append digits_value (take count (fields_of text)) (field ∷ []));
        long = length-set numbers count n ∙ r.long;
      }

  -- it is no number
  pub reading_stop : is_number field ≡ false → every is_number (fields_of text) ≡ false
  unfolding every
  reading_stop isnt =
      ap (every is_number) (sym (take-append-drop count (fields_of text)))
      ∙ every_join is_number (take count (fields_of text)) (drop count (fields_of text))
      ∙ fails_right (every is_number (take count (fields_of text))) _ (ap (every is_number) (from_here (has (fields_of text) count d inside)) ∙ fails_left _ _ (ap is_number (sym here) ∙ isnt))

-- all fields are read
pub reading_end : {text numbers : List ℕ} {count : ℕ} → Reading text numbers count → length text ≤ 4_096 → length (fields_of text) ≤ count → NumbersRead text numbers count
reading_end {text} {numbers} {count} r fit past =
    let all : take count (fields_of text) ≡ fields_of text = take_all count (fields_of text) past in
    let good : every is_number (fields_of text) ≡ true = ap (every is_number) (sym all) ∙ r.good in
    record {
      within = omega (arith, r.long, r.place, fit, ap sizes (sym (cut_fields text)), cut_sizes (λ b. eqb b 32) text, numbers_sizes count (fields_of text) r.place r.good);
      good = good;
      counted = omega (arith, r.place, past);
      read = r.values ∙ ap (map digits_value) all;
    }
