-- Codes of seven bytes, end to end.
use Rattle.numbers.proofs.Words.{ℕ, ◌+◌, ◌*◌, ◌≤◌, ◌<◌, arith, ◌≡◌, sym, ap, ◌∙◌, List, ◌++◌, ⊎_elim, append_assoc, length, take, drop, length-append, length-drop, length-take-le, take-append-drop, take_at, drop_at, put}
use Rattle.numbers.proofs.Tests.{same_or_not}
use lib.Seq.{take-append-le, drop-append-le}
use Rattle.listing.specs.Columns.{code_at}

-- a part of a list's front is the same whatever comes after
front_part : (p q : List ℕ) (at count : ℕ) → at + count ≤ length p → take count (drop at (p ++ q)) ≡ take count (drop at p)
front_part p q at count h =
    ap (take count) (drop-append-le at p q (omega arith)) ∙ take-append-le count (drop at p) q (rw length-drop (omega arith))

-- a code put at its place stands there, and those before it stay
module _ (codes code : List ℕ) (i : ℕ) (seven : length code ≡ 7) (room : 7 * i + 7 ≤ length codes) where
  abbrev front : List ℕ
  front = take (7 * i) codes

  front_length : length front ≡ 7 * i
  front_length = length-take-le (7 * i) codes (omega arith)

  put-length : length (put codes (7 * i) code) ≡ length codes
  unfolding put
  put-length = simp (length-append, length-drop) (omega (arith, front_length))

  code_there : code_at (put codes (7 * i) code) i ≡ code
  unfolding put
  code_there =
      let rest = drop (7 * i + length code) codes in
      ap (λ (l : List ℕ). code_at l i) (append_assoc front code rest)
      ∙ ap (take 7) (drop_at front (code ++ rest) (7 * i) front_length)
      ∙ take_at code rest 7 seven

  code_stays : (j : ℕ) → j < i → code_at (put codes (7 * i) code) j ≡ code_at codes j
  unfolding put
  code_stays j h =
      let rest = drop (7 * i + length code) codes in
      ap (λ (l : List ℕ). code_at l j) (append_assoc front code rest)
      ∙ front_part front (code ++ rest) (7 * j) 7 (omega (arith, front_length))
      ∙ sym (front_part front (drop (7 * i) codes) (7 * j) 7 (omega (arith, front_length)))
      ∙ ap (λ (l : List ℕ). code_at l j) (take-append-drop (7 * i) codes)

-- the first i codes stand
pub record Codes (f : ℕ → List ℕ) (codes : List ℕ) (i : ℕ) : Type 0 where
  pub long : length codes ≡ 896
  pub place : i ≤ 128
  pub codes_are : (j : ℕ) → j < i → code_at codes j ≡ f j

pub codes_next : (f : ℕ → List ℕ) (codes : List ℕ) (i : ℕ) → Codes f codes i → i < 128 → length (f i) ≡ 7 → (now : List ℕ) → now ≡ put codes (7 * i) (f i) → Codes f now (i + 1)
codes_next f codes i c h seven now e =
    let room : 7 * i + 7 ≤ length codes = omega (arith, c.long) in
    record {
      long = ap length e ∙ put-length codes (f i) i seven room ∙ c.long;
      place = omega arith;
      codes_are =
          λ j k.
          ap (λ (l : List ℕ). code_at l j) e ∙
          ⊎_elim (λ (s : j ≡ i). ap (code_at (put codes (7 * i) (f i))) s ∙ code_there codes (f i) i seven room ∙ ap f (sym s))
          (λ (o : j ≡ i → ⊥). code_stays codes (f i) i seven room j (omega (arith, o)) ∙ c.codes_are j (omega (arith, o)))
          (same_or_not j i);
    }
