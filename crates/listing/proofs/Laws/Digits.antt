-- The digits of a number, written from the back: what is left of the number, in front of the digits that stand, is the whole.
use Rattle.numbers.proofs.Words.{ℕ, zero, suc, ◌+◌, ◌-◌, ◌/◌, ◌%◌, ◌^◌, ◌≤◌, ◌<◌, pow-suc, arith, ◌≡◌, sym, ap, ◌∙◌, List, ◌∷◌, length, take, drop, set, drop_of_length-le, length-set, length-take-le, drop_at, set_split, lt-ltb, le-ltb, true, false, ℤ, pos, nat_abs, lt_z, add-one}
use Rattle.numbers.specs.Text.{digits_from, decimal, signed_decimal}
use Rattle.numbers.proofs.Whole.{negative, positive}

pub record Digits (n : ℕ) (digits : List ℕ) (left from : ℕ) : Type 0 where
  pub long : length digits ≡ 20
  pub place : from < 20
  pub small : left < 10 ^ suc from
  pub rest : digits_from (suc from) left (drop (suc from) digits) ≡ decimal n

pub digits_start : (n : ℕ) (digits : List ℕ) → length digits ≡ 20 → n < 2 ^ 64 → Digits n digits n 19
unfolding decimal
digits_start n digits long h =
    record { long = long; place = omega arith; small = omega arith; rest = ap (digits_from 20 n) (drop_of_length-le digits {i = 20} (omega arith)) }

-- a place written, and those after it
written_from : (l : List ℕ) (i x : ℕ) → i < length l → drop i (set l i x) ≡ x ∷ drop (suc i) l
written_from l i x h = ap (drop i) (set_split l i x h) ∙ drop_at (take i l) (x ∷ drop (suc i) l) i (length-take-le i l (omega arith))

-- the definition's two cases
pub digits_more : (turns left : ℕ) (after : List ℕ) → 10 ≤ left → digits_from (suc turns) left after ≡ digits_from turns (left / 10) ((48 + left % 10) ∷ after)
unfolding digits_from
digits_more turns left after h = rw (le-ltb left 10 h, digits_from)

pub digits_last : (turns left : ℕ) (after : List ℕ) → left < 10 → digits_from (suc turns) left after ≡ (48 + left) ∷ after
unfolding digits_from
digits_last turns left after h = rw (lt-ltb left 10 h, digits_from)

pub some_place : (from left : ℕ) → left < 10 ^ suc from → 10 ≤ left → 1 ≤ from
some_place zero left h more = absurd (omega (arith, h, more))
some_place (suc from) left h more = omega arith

module _ {n : ℕ} {digits : List ℕ} {left from : ℕ} (d : Digits n digits left from) (x : ℕ) (e : x ≡ 48 + left % 10) where
  abbrev after : List ℕ
  after = drop (suc from) digits

  here : drop from (set digits from x) ≡ x ∷ after
  here = written_from digits from x (omega (arith, d.long, d.place))

  -- one digit more, where ten or more is left
  module _ (more : 10 ≤ left) where
    pub digits_place : 1 ≤ from
    digits_place = some_place from left d.small more

    pub digits_next : Digits n (set digits from x) (left / 10) (from - 1)
    digits_next =
        let back : suc (from - 1) ≡ from = omega (arith, digits_place) in
        record {
          long = length-set digits from x ∙ d.long;
          place = omega (arith, d.place);
          small = rw back (omega (arith, d.small, pow-suc 10 from));
          rest = rw (back, here, e) (sym (digits_more from left after more) ∙ d.rest);
        }

  -- the last digit
  pub digits_end : left < 10 → drop from (set digits from x) ≡ decimal n
  digits_end h =
      let digit : x ≡ 48 + left = omega (arith, e, h) in
      here ∙ ap (λ (y : ℕ). y ∷ after) digit ∙ sym (digits_last from left after h) ∙ d.rest

-- a whole number by its sign
pub below_zero : (z : ℤ) → lt_z z (pos 0) ≡ true → signed_decimal z ≡ 45 ∷ decimal (nat_abs z)
unfolding signed_decimal
below_zero z e =
    let n = negative z e in
    rw n.1 (ap (λ (m : ℕ). 45 ∷ decimal m) (add-one n.0))

pub above_zero : (z : ℤ) → lt_z z (pos 0) ≡ false → signed_decimal z ≡ decimal (nat_abs z)
unfolding signed_decimal
above_zero z e = rw (positive z e).1
