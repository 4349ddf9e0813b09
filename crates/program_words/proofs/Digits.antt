-- The digits of a word, read one after the other, give the number in it.
use Rattle.std.proofs.Common.{Option, Some, None}
use Rattle.numbers.proofs.Words.{ℕ, ◌+◌, ◌-◌, ◌*◌, ◌≤◌, ◌<◌, arith, ◌≡◌, refl, sym, ap, ◌∙◌, Bool, true, false, cond, and-false, List, [], ◌∷◌, drop, drop_of_length-le, length, ltb, lt-ltb, le-ltb, ltb-true, ltb-false, ◌and◌, every}
use Rattle.numbers.specs.Text.{digits_after, digits_value, is_digit, is_number}
use Rattle.numbers.proofs.Lists.{Has, from_here}
use Rattle.program_words.specs.Digits.{number_in, with_digit}

abbrev limit : ℕ
limit = 4_294_967_296

abbrev nothing : Option ℕ
nothing = None

-- the number if digits go on
abbrev then_read : (ℕ → Option ℕ) → Option ℕ → Option ℕ
then_read read (Some n) = read n
then_read read None = None

-- digits after a number
unfoldable pub read_from : ℕ → List ℕ → Option ℕ
read_from n [] = Some n
read_from n (b ∷ bs) = then_read (λ (m : ℕ). read_from m bs) (with_digit n b)

-- a number within its limit, and none elsewhere
abbrev within : Bool → ℕ → Option ℕ
within digits n = cond (digits and ltb n limit) (Some n) None

within_large : (digits : Bool) (n : ℕ) → limit ≤ n → within digits n ≡ None
within_large digits n h = ap (λ (t : Bool). cond (digits and t) (Some n) None) (le-ltb n limit h) ∙ ap (λ (t : Bool). cond t (Some n) None) (and-false digits)

-- digits never lower what stands in front of them
value_least : (n : ℕ) (bs : List ℕ) → n ≤ digits_after n bs
unfolding digits_after
value_least n [] = omega arith
value_least n (b ∷ bs) = omega (arith, value_least (10 * n + (b - 48)) bs)

-- a digit more, or none, and then the others
one_digit : (t u : Bool) (more : ℕ) (bs : List ℕ) → (ltb more limit ≡ u) → (more < limit → read_from more bs ≡ within (every is_digit bs) (digits_after more bs))
    → then_read (λ (m : ℕ). read_from m bs) (cond (t and u) (Some more) None) ≡ within (t and every is_digit bs) (digits_after more bs)
one_digit true true more bs f rest = rest (ltb-true more limit f)
one_digit true false more bs f rest = sym (within_large (every is_digit bs) (digits_after more bs) (omega (arith, ltb-false more limit f, value_least more bs)))
one_digit false u more bs f rest = refl

-- what is read is the value within its limit
read_value : (n : ℕ) (bs : List ℕ) → n < limit → read_from n bs ≡ within (every is_digit bs) (digits_after n bs)
unfolding read_from with_digit digits_after every
read_value n [] h = sym (ap (λ (t : Bool). cond t (Some n) None) (lt-ltb n limit h))
read_value n (b ∷ bs) h = one_digit (is_digit b) (ltb (10 * n + (b - 48)) limit) (10 * n + (b - 48)) bs refl (read_value (10 * n + (b - 48)) bs)

-- so a word with a byte in it gives its number
pub read_number : (word : List ℕ) → 0 < length word → read_from 0 word ≡ number_in word
unfolding number_in is_number
read_number word some = read_value 0 word (omega arith) ∙ sym (ap (λ (t : Bool). cond (t and every is_digit word and ltb (digits_value word) limit) (Some (digits_value word)) None) (lt-ltb 0 (length word) some))

pub no_word : (word : List ℕ) → length word ≤ 0 → None ≡ number_in word
unfolding number_in is_number
no_word word none = sym (ap (λ (t : Bool). cond (t and every is_digit word and ltb (digits_value word) limit) (Some (digits_value word)) None) (le-ltb 0 (length word) none))

-- one byte more, as a loop goes
module _ {bs : List ℕ} {i b : ℕ} (here : Has bs i b) (n : ℕ) where
  pub read_next : (m : ℕ) → with_digit n b ≡ Some m → read_from n (drop i bs) ≡ read_from m (drop (i + 1) bs)
  unfolding read_from
  read_next m e = rw (from_here here, e)

  pub read_none : with_digit n b ≡ None → read_from n (drop i bs) ≡ None
  unfolding read_from
  read_none e = rw (from_here here, e)

pub read_end : (bs : List ℕ) (i n : ℕ) → length bs ≤ i → read_from n (drop i bs) ≡ Some n
unfolding read_from
read_end bs i n past = rw (drop_of_length-le bs past)

-- what the number in a word says of the word
pub is_number_lem : (word : List ℕ) (n : ℕ) → number_in word ≡ Some n → (is_number word ≡ true) × (n ≡ digits_value word)
unfolding number_in
is_number_lem word n = go (is_number word)
  where
    go : (t : Bool) → cond t (Some (digits_value word)) None ≡ Some n → (t ≡ true) × (n ≡ digits_value word)
    go true h = (refl, cc)
    go false h = absurd cc

pub is_none : (word : List ℕ) → number_in word ≡ None → is_number word ≡ false
unfolding number_in
is_none word = go (is_number word)
  where
    go : (t : Bool) → cond t (Some (digits_value word)) None ≡ nothing → t ≡ false
    go true h = absurd cc
    go false h = refl
