-- Texts by number, laid one after the other by a loop.
use Rattle.numbers.proofs.Words.{ℕ, zero, suc, ◌+◌, ◌*◌, ◌≤◌, ◌<◌, zero-add, add-one, not-suc-le-zero, le_antisymm, arith, ◌≡◌, refl, sym, ap, ap₂, ◌∙◌, List, [], ◌∷◌, ◌++◌, append_assoc, append-nil, ⊎_elim, length, length-append, counted}
use mathlib.Core.List.{flat_map}
use Rattle.numbers.proofs.Ranges.{counted_more}
use Rattle.numbers.proofs.Tests.{below_or_not}
use Rattle.listing.specs.Laid.{Laid}
use Rattle.listing.proofs.Laws.Laid.{laid_none, laid_then, laid_length}

module _ (f : ℕ → List ℕ) where
  -- the first n texts
  abbrev pub texts : ℕ → List ℕ
  texts n = flat_map f (counted 0 n)

  appended : (xs ys : List ℕ) → flat_map f (xs ++ ys) ≡ flat_map f xs ++ flat_map f ys
  unfolding flat_map
  appended [] ys = refl
  appended (x ∷ xs) ys = rw (appended xs ys, append_assoc)

  -- and one more
  pub texts_more : (n : ℕ) → texts (suc n) ≡ texts n ++ f n
  unfolding flat_map
  texts_more n = ap (flat_map f) (counted_more 0 n) ∙ appended (counted 0 n) ((0 + n) ∷ []) ∙ rw (append-nil, zero-add)

  long_more : (n : ℕ) → length (texts (suc n)) ≡ length (texts n) + length (f n)
  long_more n = ap length (texts_more n) ∙ length-append (texts n) (f n)

  -- a text and those before it are no longer than all
  texts_long : (i n : ℕ) → i < n → length (texts i) + length (f i) ≤ length (texts n)
  texts_long i zero h = absurd (not-suc-le-zero h)
  texts_long i (suc n) h =
      ⊎_elim (λ (k : i < n). omega (arith, texts_long i n k, long_more n))
      (λ (k : n ≤ i).
      let last : length (texts i) + length (f i) ≡ length (texts n) + length (f n) = ap (λ (j : ℕ). length (texts j) + length (f j)) (omega (arith, h, k)) in
      omega (arith, last, long_more n))
      (below_or_not i n)

-- the same texts by number
pub texts_same : (f g : ℕ → List ℕ) (n : ℕ) → ((i : ℕ) → i < n → f i ≡ g i) → texts f n ≡ texts g n
unfolding flat_map counted
texts_same f g zero h = refl
texts_same f g (suc n) h = texts_more f n ∙ ap₂ ◌++◌ (texts_same f g n (λ i k. h i (omega arith))) (h n (omega arith)) ∙ sym (texts_more g n)

-- n texts of at most m bytes
pub texts_most : (f : ℕ → List ℕ) (m n : ℕ) → ((i : ℕ) → i < n → length (f i) ≤ m) → length (texts f n) ≤ n * m
unfolding flat_map counted
texts_most f m zero h = omega arith
texts_most f m (suc n) h = omega (arith, long_more f n, h n (omega arith), texts_most f m n (λ i k. h i (omega arith)))

-- n texts of m bytes
pub texts_length : (f : ℕ → List ℕ) (m n : ℕ) → ((i : ℕ) → length (f i) ≡ m) → length (texts f n) ≡ n * m
unfolding flat_map counted
texts_length f m zero h = omega arith
texts_length f m (suc n) h = omega (arith, long_more f n, h n, texts_length f m n h)

-- what a loop keeps: i of the n texts stand, from a place of `was` on, and there is room for all
pub record Rows (f : ℕ → List ℕ) (n : ℕ) (was : List ℕ) (at : ℕ) (now : List ℕ) (next i : ℕ) : Type 0 where
  pub place : i ≤ n
  pub laid : Laid was at (texts f i) now next
  pub room : at + length (texts f n) ≤ length was

pub rows_start : (f : ℕ → List ℕ) (n : ℕ) (was : List ℕ) (at : ℕ) → at + length (texts f n) ≤ length was → Rows f n was at was at 0
unfolding flat_map counted
rows_start f n was at room = record { place = omega arith; laid = laid_none was at; room = room }

module _ {f : ℕ → List ℕ} {n : ℕ} {was : List ℕ} {at : ℕ} {mid : List ℕ} {next i : ℕ} (r : Rows f n was at mid next i) where
  long : at + length (texts f i) ≤ length was
  long =
      ⊎_elim (λ (h : i < n). omega (arith, r.room, texts_long f i n h))
      (λ (h : n ≤ i). omega (arith, r.room, ap (λ (j : ℕ). length (texts f j)) (le_antisymm r.place h)))
      (below_or_not i n)

  pub rows_length : length mid ≡ length was
  rows_length = laid_length (texts f i) r.laid long

  pub rows_end : n ≤ i → Laid was at (texts f n) mid next
  rows_end h = let all : n ≡ i = omega (arith, h, r.place) in rw all r.laid

  module _ (h : i < n) where
    pub rows_room : next + length (f i) ≤ length mid
    rows_room = omega (arith, r.room, texts_long f i n h, r.laid.ends, rows_length)

    pub rows_next : {now : List ℕ} {last : ℕ} → Laid mid next (f i) now last → Rows f n was at now last (i + 1)
    rows_next l =
        record {
          place = omega (arith, h);
          laid = rw (add-one, texts_more f i) (laid_then (texts f i) (f i) r.laid (omega (arith, r.room, texts_long f i n h)) l);
          room = r.room;
        }
