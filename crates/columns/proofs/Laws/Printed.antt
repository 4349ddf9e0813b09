-- What the program prints: which text it is, how long it is, and that no byte of the input is missed.
use Rattle.numbers.proofs.Words.{ℕ, ◌+◌, ◌≤◌, ◌<◌, max, arith, ◌≡◌, refl, sym, ap, ap₂, subst₂, ◌∙◌, ⊎_elim, Bool, true, false, not, cond, ◌||◌, List, [], ◌∷◌, ◌++◌, take, drop, take_all, take-append-drop, length, length-take-le, eq-eqb, put}
use Rattle.numbers.specs.Text.{bytes, digits_from, decimal}
use Rattle.numbers.proofs.Tests.{below_or_not}
use Rattle.rules.specs.Calls.{◌if◌, first, handed_out}
use Rattle.rules.specs.File.{places_in, unfit}
use Rattle.rules.specs.Listing.{row, refusal_row}
use Rattle.rules.specs.Columns.{turned, turned_back, turn_number, turn_written, turn_back_written, turn_printed}
use Rattle.file_event.proofs.Laws.Cases.{fit}
use Rattle.file_columns.proofs.Laws.Shown.{columns_shown}
use Rattle.listing.specs.Laid.{Laid}

-- 25, where file and list have one length
alone : (n : ℕ) → turn_number n n ≡ cond {A = ℕ} (unfit n) 25 0
unfolding turn_number first
alone n = ap (λ (same : Bool). first (25 if (unfit n || unfit n || not same) ∷ [])) (eq-eqb n n refl) ∙ go (unfit n)
  where
    go : (bad : Bool) → first (25 if (bad || bad || not true) ∷ []) ≡ cond {A = ℕ} bad 25 0
    go true = refl
    go false = refl

-- the file turned, the one way or the other
abbrev result : Bool → List ℕ → List ℕ
result back file = cond back (turned_back file) (turned file)

refused_long : length (refusal_row 25) ≡ 11
unfolding row bytes decimal digits_from
refused_long = refl

module _ (back : Bool) (file : List ℕ) where
  result_length : unfit (length file) ≡ false → length (result back file) ≡ length file
  result_length e =
      let long = (fit (length file) e).long in
      let both = columns_shown.lengths (places_in file) file long in
      go back (both.0 ∙ sym long) (both.1 ∙ sym long)
    where
      go : (b : Bool) → length (turned file) ≡ length file → length (turned_back file) ≡ length file → length (result b file) ≡ length file
      go true forth back = back
      go false forth back = forth

  text_turned : unfit (length file) ≡ false → turn_printed back file ≡ result back file
  unfolding turn_printed
  text_turned e = ap (λ (bad : Bool). cond bad (refusal_row 25) (result back file)) e

  text_refused : unfit (length file) ≡ true → turn_printed back file ≡ refusal_row 25
  unfolding turn_printed
  text_refused e = ap (λ (bad : Bool). cond bad (refusal_row 25) (result back file)) e

  -- how long it is
  pub printed_most : length (turn_printed back file) ≤ max 11 (length file)
  printed_most = go (unfit (length file)) refl
    where
      go : (t : Bool) → unfit (length file) ≡ t → length (turn_printed back file) ≤ max 11 (length file)
      go true e = omega (arith, ap length (text_refused e), refused_long)
      go false e = omega (arith, ap length (text_turned e), result_length e)

-- what the turn of the first part of a buffer comes to
module _ (back : Bool) (file was : List ℕ) (room : length file ≤ length was) where
  abbrev lent : List ℕ
  lent = take (length file) was

  lent_long : length lent ≡ length file
  lent_long = length-take-le (length file) was room

  said : turn_number (length file) (length lent) ≡ cond {A = ℕ} (unfit (length file)) 25 0
  said = ap (turn_number (length file)) lent_long ∙ alone (length file)

  written : cond back (turn_back_written file lent) (turn_written file lent) ≡ handed_out (turn_number (length file) (length lent)) (result back file) lent
  unfolding turn_written turn_back_written
  written = go back
    where
      go : (b : Bool) → cond b (turn_back_written file lent) (turn_written file lent) ≡ handed_out (turn_number (length file) (length lent)) (result b file) lent
      go true = refl
      go false = refl

  module _ {number : ℕ} {front : List ℕ} (number_said : number ≡ turn_number (length file) (length lent)) (front_written : front ≡ cond back (turn_back_written file lent) (turn_written file lent)) where
    number_is : number ≡ cond {A = ℕ} (unfit (length file)) 25 0
    number_is = number_said ∙ said

    front_is : front ≡ handed_out number (result back file) lent
    front_is = front_written ∙ written ∙ ap (λ (m : ℕ). handed_out m (result back file) lent) (sym number_said)

    -- nothing is refused: the first part is the text
    pub printed_turned : number ≡ 0 → Laid was 0 (turn_printed back file) (front ++ drop (length file) was) (length file)
    unfolding put
    printed_turned none =
        let fine : unfit (length file) ≡ false = go (unfit (length file)) (sym number_is ∙ none) in
        let text : front ≡ turn_printed back file = front_is ∙ ap (λ (m : ℕ). handed_out m (result back file) lent) none ∙ sym (text_turned back file fine) in
        let long : length file ≡ 0 + length (turn_printed back file) = omega (arith, ap length (text_turned back file fine), result_length back file fine) in
        record { written = ap₂ (λ (l : List ℕ) (n : ℕ). l ++ drop n was) text long; ends = long }
      where
        go : (t : Bool) → cond {A = ℕ} t 25 0 ≡ 0 → t ≡ false
        go true e = absurd (omega (arith, e))
        go false e = refl

    -- something is: the buffer is as it was, and the refusal is the text
    module _ (some : number ≡ 0 → ⊥) where
      bad : (number ≡ 25) × (unfit (length file) ≡ true)
      bad = go (unfit (length file)) number_is
        where
          go : (t : Bool) → number ≡ cond {A = ℕ} t 25 0 → (number ≡ 25) × (t ≡ true)
          go true e = (e, refl)
          go false e = absurd (some e)

      same_buffer : front ++ drop (length file) was ≡ was
      same_buffer =
          ap (λ (l : List ℕ). l ++ drop (length file) was) (front_is ∙ ap (λ (m : ℕ). handed_out m (result back file) lent) bad.0) ∙ take-append-drop (length file) was

      pub refusal_room : 11 ≤ length was → 0 + length (refusal_row number) ≤ length (front ++ drop (length file) was)
      refusal_room h = omega (arith, h, ap (λ (m : ℕ). length (refusal_row m)) bad.0, refused_long, ap length same_buffer)

      pub printed_refused : {now : List ℕ} {next : ℕ} → Laid (front ++ drop (length file) was) 0 (refusal_row number) now next → Laid was 0 (turn_printed back file) now next
      printed_refused {now} {next} =
          subst₂ (λ (l text : List ℕ). Laid l 0 text now next) same_buffer (ap refusal_row bad.0 ∙ sym (text_refused back file bad.1))

-- what stands after the bytes that the program reads changes nothing (02, l, 4)
too_long : (n : ℕ) → 64_616 < n → unfit n ≡ true
too_long n h = go (unfit n) refl
  where
    go : (t : Bool) → unfit n ≡ t → unfit n ≡ true
    go true e = e
    go false e = absurd (omega (arith, h, (fit n e).few, (fit n e).long))

pub start_turned : (back : Bool) (file : List ℕ) (most : ℕ) → 64_616 < most → turn_printed back (take most file) ≡ turn_printed back file
start_turned back file most h =
    ⊎_elim (λ (more : most < length file).
    text_refused back (take most file) (too_long _ (omega (arith, h, more, length-take-le most file (omega (arith, more))))) ∙ sym (text_refused back file (too_long (length file) (omega (arith, h, more)))))
    (λ (all : length file ≤ most). ap (turn_printed back) (take_all most file all))
    (below_or_not most (length file))
