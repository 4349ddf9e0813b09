-- Numbers and their little-endian bytes are the same thing twice; a list of zero bytes is one list.
use Rattle.numbers.proofs.Words.{ℕ, zero, suc, ◌+◌, ◌/◌, ◌<◌, ◌^◌, div-lt_iff_lt-mul, pow-suc, arith, ◌≡◌, refl, ap, ap₂, ◌∙◌, true, ◌&&◌, List, [], ◌∷◌, eqb, length, get_or, take, drop, replicate, drop-cons, get_or-drop, eqb-true, bytes_of, number_of, all_zero}
use Rattle.numbers.proofs.Tests.{and_left, and_right}

-- every entry is a byte
abbrev pub Bytes : List ℕ → Type 0
Bytes bs = (i : ℕ) → get_or bs i 0 < 256

-- a number that so many bytes hold is read back from them
pub number_bytes : (count x : ℕ) → x < 256 ^ count → number_of (bytes_of count x) ≡ x
unfolding bytes_of number_of
number_bytes zero x h = omega arith
number_bytes (suc count) x h = omega (arith, number_bytes count (x / 256) ((div-lt_iff_lt-mul (omega arith)).1 (rw pow-suc at h)))

-- bytes are those of the number that they stand for
pub bytes_number : (bs : List ℕ) → Bytes bs → bytes_of (length bs) (number_of bs) ≡ bs
unfolding bytes_of number_of
bytes_number [] h = refl
bytes_number (b ∷ bs) h =
    ap₂ ◌∷◌ (omega (arith, h 0))
    (ap (bytes_of (length bs)) (omega (arith, h 0)) ∙ bytes_number bs (λ i. h (suc i)))

pub zero_bytes : (bs : List ℕ) → all_zero bs ≡ true → bs ≡ replicate (length bs) 0
unfolding all_zero
zero_bytes [] h = refl
zero_bytes (b ∷ bs) h = ap₂ ◌∷◌ (eqb-true b 0 (and_left (eqb b 0) (all_zero bs) h)) (zero_bytes bs (and_right (eqb b 0) (all_zero bs) h))

-- one byte more of a run of zeros
pub zero_step : (bs : List ℕ) (i : ℕ) → i < length bs → all_zero (drop i bs) ≡ (eqb (get_or bs i 0) 0 && all_zero (drop (suc i) bs))
unfolding all_zero
zero_step bs i h = ap all_zero (drop-cons bs i 0 h)

-- a part of a list of bytes is one
pub bytes_take : (count : ℕ) (bs : List ℕ) → Bytes bs → Bytes (take count bs)
bytes_take zero bs h i = omega arith
bytes_take (suc count) [] h i = omega arith
bytes_take (suc count) (b ∷ bs) h zero = h 0
bytes_take (suc count) (b ∷ bs) h (suc i) = bytes_take count bs (λ j. h (suc j)) i

pub bytes_drop : (at : ℕ) (bs : List ℕ) → Bytes bs → Bytes (drop at bs)
bytes_drop at bs h i = rw (get_or-drop at bs i 0) (h (at + i))
