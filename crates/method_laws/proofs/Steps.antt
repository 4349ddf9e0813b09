-- Steps 1 to 4: what is left is even over all codes, what stays inside is even in each code, and what goes outside is even.
use Rattle.numbers.proofs.Words.{ℕ, ◌+◌, ◌-◌, ◌≤◌, ◌<◌, arith, ◌≡◌, refl, sym, ap, ap₂, subst, ◌∙◌, Bool, true, false, cond, false≢true, and-true, and-false, or-false, List, [], map, ⊎_elim, ltb, length, get_or-map, ℤ, pos, negsuc, nat_abs, ◌+ℤ◌, ◌-ℤ◌, lt-ltb, le-ltb, ltb-true, ltb-false, listed, entry, less, total, total_ℤ}
use Rattle.rules.specs.declared.book.{Section.Section, Notice.Notice}
use Rattle.numbers.proofs.Whole.{plus, minus, ext, sum, difference, difference_size, difference_above, difference_below}
use Rattle.numbers.proofs.Sums.{naturals, wholes}
use Rattle.numbers.proofs.Ranges.{listed_at, listed_read, listed_under, less_at, sum_same, sum_both, sum_difference}
use Rattle.numbers.proofs.Tests.{below_or_not}
use Rattle.rules.specs.Book.{position_of, section_of, section_of_noughts}
use Rattle.rules.specs.Expiry.{is_long, is_short, opposed, on_side_of, net_of_code, chosen}
use Rattle.rules.specs.Expiry
use Rattle.rules.specs.Expiry.Failing.{fails, failing}
use Rattle.rules.specs.Expiry.Codes.{d_of_codes, given_in_codes}
use Rattle.rules.specs.Expiry.Across.{d_overall, code_cap, given_across}
use Rattle.method_laws.specs.Giving.{code_caps}
use Rattle.rules.specs.Expiry.Call.{remaining}
use Rattle.method_laws.proofs.Shares.{Told, in_codes_within, across_within}
use Rattle.method_laws.proofs.Greedy.{Given}
use Rattle.method_laws.proofs.Across.{across_given, closed_even}
use Rattle.method_laws.proofs.Sides.{side_of, all_of, Within, lots_less, lots_most, side_classes, net_sides, on_side_lem}

-- what one number has over another, where it has more
over_other : (a b : ℕ) → cond (ltb b a) ((b - a) + (a - b)) 0 ≡ a - b
over_other a b = go (ltb b a) refl
  where
    go : (t : Bool) → ltb b a ≡ t → cond t ((b - a) + (a - b)) 0 ≡ a - b
    go true e = omega (arith, ltb-true b a e)
    go false e = omega (arith, ltb-false b a e)

-- no position is both long and short
pub long_not_short : (p : ℤ) → is_long p ≡ true → is_short p ≡ false
long_not_short (pos n) e = le-ltb n 0 (omega arith)
long_not_short (negsuc n) e = absurd (false≢true e)

pub short_not_long : (p : ℤ) → is_short p ≡ true → is_long p ≡ false
short_not_long (pos n) e = absurd (omega (arith, ltb-true n 0 e))
short_not_long (negsuc n) e = refl

-- what faces a long number is short, and the other way round
faces_long : (p d : ℤ) → is_long d ≡ true → opposed p d ≡ is_short p
faces_long p d e = simp (e, long_not_short d e, and-true, and-false)

faces_short : (p d : ℤ) → is_short d ≡ true → opposed p d ≡ is_long p
faces_short p d e = simp (e, short_not_long d e, and-true, and-false, or-false)

-- a section's lots are its position's size
sizes_at : (ss : List Section) (i : ℕ) → entry (map Expiry.size ss) i ≡ Expiry.size (section_of ss i)
sizes_at ss i = get_or-map Expiry.size ss i (section_of_noughts [])

-- the positions' sum is the long lots less the short ones
positions_sides : (ss : List Section) → total_ℤ (map position_of ss) ≡ pos (all_of ss is_long (map Expiry.size ss)) -ℤ pos (all_of ss is_short (map Expiry.size ss))
positions_sides ss =
    sym (ap total_ℤ (listed_read position_of ss (section_of_noughts [])))
    ∙ sum_same ◌+ℤ◌ (pos 0) wholes (length ss) _ _ (λ i h. whole (position_of (section_of ss i)) ∙ on_side_lem (position_of (section_of ss i)) (Expiry.size (section_of ss i)) (omega arith) ∙ ap (λ (x : ℕ). pos (cond (is_long (position_of (section_of ss i))) x 0) -ℤ pos (cond (is_short (position_of (section_of ss i))) x 0)) (sym (sizes_at ss i)))
    ∙ sum_difference (length ss) _ _
  where
    whole : (p : ℤ) → p ≡ on_side_of p (nat_abs p)
    whole (pos n) = refl
    whole (negsuc n) = refl

module _ (ss : List Section) (ns : List Notice) (codes : (i : ℕ) → i < length ss → (section_of ss i).settlement < 64) (told : Told ss) (even : total_ℤ (map position_of ss) ≡ pos 0) where
  -- the steps' lists, as `remaining` has them
  abbrev sizes : List ℕ
  sizes = map Expiry.size ss

  abbrev failed : List ℕ
  failed = failing ss ns

  abbrev sound : List ℕ
  sound = less sizes failed

  abbrev gap : List ℤ
  gap = d_of_codes ss failed

  abbrev in_codes : List ℕ
  in_codes = given_in_codes ss gap sound

  abbrev left : List ℕ
  left = less sound in_codes

  abbrev open' : ℤ
  open' = d_overall ss gap in_codes

  abbrev across : List ℕ
  across = given_across ss open' left

  failed_within : (i : ℕ) → entry failed i ≤ entry sizes i
  unfolding failing
  failed_within i = omega (arith, sizes_at ss i, listed_under (length ss) (fails ss ns) (λ (j : ℕ). Expiry.size (section_of ss j)) i)

  across_gave : Given ss (chosen ss (λ (s : Section). opposed (position_of s) open') left) (code_caps ss open' left) (nat_abs open') across
  across_gave = across_given ss codes told open' left

  within_failed : Within ss failed
  unfolding Within
  within_failed i = omega (arith, failed_within i, sizes_at ss i)

  within_sound : Within ss sound
  unfolding Within
  within_sound i = omega (arith, less_at sizes failed i, sizes_at ss i)

  within_in_codes : Within ss in_codes
  unfolding Within
  within_in_codes i = omega (arith, in_codes_within ss gap sound i, less_at sizes failed i, sizes_at ss i)

  pub within_left : Within ss left
  unfolding Within
  within_left i = omega (arith, less_at sound in_codes i, less_at sizes failed i, sizes_at ss i)

  -- on each side, what fails, what is given in the codes and what is left make up all lots
  made_up : (side : ℤ → Bool) → all_of ss side failed + all_of ss side in_codes + all_of ss side left ≡ all_of ss side sizes
  made_up side =
      omega (arith, lots_less ss (λ (s : Section). side (position_of s)) sizes failed failed_within, lots_less ss (λ (s : Section). side (position_of s)) sound in_codes (in_codes_within ss gap sound))

  sizes_even : all_of ss is_long sizes ≡ all_of ss is_short sizes
  sizes_even =
      let e : pos (all_of ss is_long sizes) -ℤ pos (all_of ss is_short sizes) ≡ pos 0 = sym (positions_sides ss) ∙ even in
      omega (arith, difference (pos (all_of ss is_long sizes)) (pos (all_of ss is_short sizes)), ap plus e, ap minus e)

  -- what is left open, by its two sides
  open_sides : open' ≡ pos (all_of ss is_long failed + all_of ss is_long in_codes) -ℤ pos (all_of ss is_short failed + all_of ss is_short in_codes)
  unfolding d_overall d_of_codes Within
  open_sides =
      sum_same ◌+ℤ◌ (pos 0) wholes 64 _ _ (λ c h. ap₂ ◌+ℤ◌ (listed_at 64 (net_of_code ss failed) c (pos 0) h ∙ net_sides ss failed within_failed c) (net_sides ss in_codes within_in_codes c) ∙ paired_difference (side_of ss is_long c failed) (side_of ss is_short c failed) (side_of ss is_long c in_codes) (side_of ss is_short c in_codes))
      ∙ sum_difference 64 _ _
      ∙ ap₂ (λ (x y : ℕ). pos x -ℤ pos y) (two_classes is_long) (two_classes is_short)
    where
      paired_difference : (a b c d : ℕ) → (pos a -ℤ pos b) +ℤ (pos c -ℤ pos d) ≡ pos (a + c) -ℤ pos (b + d)
      paired_difference a b c d =
          ext _ _ (omega (arith, difference (pos a) (pos b), difference (pos c) (pos d), sum (pos a -ℤ pos b) (pos c -ℤ pos d), difference (pos (a + c)) (pos (b + d))))

      two_classes : (side : ℤ → Bool) → total (listed 64 (λ (c : ℕ). side_of ss side c failed + side_of ss side c in_codes)) ≡ all_of ss side failed + all_of ss side in_codes
      two_classes side = sum_both ◌+◌ 0 naturals 64 _ _ ∙ ap₂ ◌+◌ (side_classes ss side failed codes) (side_classes ss side in_codes codes)

  -- so what is left is even but for what is open
  left_open : all_of ss is_short left + (all_of ss is_short failed + all_of ss is_short in_codes) ≡ all_of ss is_long left + (all_of ss is_long failed + all_of ss is_long in_codes)
  left_open = omega (arith, made_up is_long, made_up is_short, sizes_even)

  -- what is left, and what each has at least
  pub kept_is : remaining ss ns ≡ less left across
  unfolding remaining
  kept_is = refl

  -- step 3 gives from the side that faces what is open
  kept_even_from : (mine other : ℤ → Bool) → ((p : ℤ) → opposed p open' ≡ mine p) → ((p : ℤ) → other p ≡ true → mine p ≡ false) → ((c : ℕ) → mine (net_of_code ss left c) ≡ ltb (side_of ss other c left) (side_of ss mine c left)) → ((c : ℕ) → nat_abs (net_of_code ss left c) ≡ (side_of ss other c left - side_of ss mine c left) + (side_of ss mine c left - side_of ss other c left)) → nat_abs open' + all_of ss other left ≡ all_of ss mine left → all_of ss mine (less left across) ≡ all_of ss other (less left across)
  unfolding code_cap
  kept_even_from mine other faced apart side-of-net size-of-net more = closed_even ss codes told left open' mine other faced apart cap more
    where
      cap : (c : ℕ) → c < 64 → code_cap ss open' left c ≡ side_of ss mine c left - side_of ss other c left
      cap c h =
          ap₂ (λ (t : Bool) (n : ℕ). cond t n 0) (faced (net_of_code ss left c) ∙ side-of-net c) (size-of-net c)
          ∙ over_other (side_of ss mine c left) (side_of ss other c left)

  pub kept_even : all_of ss is_long (remaining ss ns) ≡ all_of ss is_short (remaining ss ns)
  unfolding Within
  kept_even = subst (λ (xs : List ℕ). all_of ss is_long xs ≡ all_of ss is_short xs) (sym kept_is) (⊎_elim above (λ h. ⊎_elim below (level h) (below_or_not x y)) (below_or_not y x))
    where
      x : ℕ
      x = all_of ss is_long failed + all_of ss is_long in_codes

      y : ℕ
      y = all_of ss is_short failed + all_of ss is_short in_codes

      size_of_open : nat_abs open' ≡ (x - y) + (y - x)
      size_of_open = ap nat_abs open_sides ∙ difference_size x y

      net_size : (c : ℕ) → nat_abs (net_of_code ss left c) ≡ (side_of ss is_long c left - side_of ss is_short c left) + (side_of ss is_short c left - side_of ss is_long c left)
      net_size c = ap nat_abs (net_sides ss left within_left c) ∙ difference_size (side_of ss is_long c left) (side_of ss is_short c left)

      above : y < x → all_of ss is_long (less left across) ≡ all_of ss is_short (less left across)
      above h =
          sym
          (kept_even_from is_short is_long (λ p. faces_long p open' (ap is_long open_sides ∙ difference_above x y ∙ lt-ltb y x h)) long_not_short
          (λ c. ap is_short (net_sides ss left within_left c) ∙ difference_below (side_of ss is_long c left) (side_of ss is_short c left)) net_size (omega (arith, h, size_of_open, left_open)))

      below : x < y → all_of ss is_long (less left across) ≡ all_of ss is_short (less left across)
      below h =
          kept_even_from is_long is_short (λ p. faces_short p open' (ap is_short open_sides ∙ difference_below x y ∙ lt-ltb x y h)) short_not_long
          (λ c. ap is_long (net_sides ss left within_left c) ∙ difference_above (side_of ss is_long c left) (side_of ss is_short c left)) (λ c. omega (arith, net_size c)) (omega (arith, h, size_of_open, left_open))

      level : x ≤ y → y ≤ x → all_of ss is_long (less left across) ≡ all_of ss is_short (less left across)
      level h k =
          omega (arith, h, k, left_open, size_of_open, across_gave.needed, lots_most ss (λ (s : Section). is_long (position_of s)) across across_gave.long, lots_most ss (λ (s : Section). is_short (position_of s)) across across_gave.long, lots_less ss (λ (s : Section). is_long (position_of s)) left across (across_within ss open' left), lots_less ss (λ (s : Section). is_short (position_of s)) left across (across_within ss open' left))

  pub within_kept : Within ss (remaining ss ns)
  unfolding Within
  within_kept i = omega (arith, ap (λ (xs : List ℕ). entry xs i) kept_is, less_at left across i, within_left i)

  -- a failing section delivers nothing
  pub kept_failing : (i : ℕ) → i < length ss → fails ss ns i ≡ true → entry (remaining ss ns) i ≡ 0
  unfolding failing
  kept_failing i h e =
      let all : entry failed i ≡ Expiry.size (section_of ss i) = listed_at (length ss) (λ (j : ℕ). cond (fails ss ns j) (Expiry.size (section_of ss j)) 0) i 0 h ∙ ap (λ (t : Bool). cond t (Expiry.size (section_of ss i)) 0) e in
      omega (arith, all, ap (λ (xs : List ℕ). entry xs i) kept_is, less_at left across i, less_at sound in_codes i, less_at sizes failed i, sizes_at ss i)
