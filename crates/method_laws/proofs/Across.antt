-- Step 3 closes exactly what is open, and leaves as many long lots as short ones.
use Rattle.numbers.proofs.Words.{ℕ, ◌+◌, ◌-◌, ◌≤◌, ◌<◌, min, arith, ◌≡◌, refl, sym, ap, subst, ◌∙◌, Bool, true, false, cond, ◌&&◌, List, ⊎_elim, eqb, ltb, length, ℤ, nat_abs, listed, entry, less, total}
use Rattle.rules.specs.declared.book.{Section.Section}
use Rattle.numbers.proofs.Sums.{naturals}
use Rattle.numbers.proofs.Under.{under_same, under_none, under_two}
use Rattle.numbers.proofs.Ranges.{listed_at, total_long, sum_same, sum_both, sum_classes, sum_within, sum_nothing}
use Rattle.rules.specs.Book.{position_of, section_of}
use Rattle.rules.specs.Expiry.{opposed, chosen}
use Rattle.rules.specs.Expiry.Across.{code_cap, given_across}
use Rattle.method_laws.specs.Giving.{code_caps}
use Rattle.method_laws.proofs.Shares.{Told, taken_across}
use Rattle.method_laws.proofs.Greedy.{of_code, Given, given}
use Rattle.method_laws.proofs.Sides.{lots_of, side_of, all_of, chosen_within, lots_less, side_classes}

-- what a code's sections on one side have
pub chosen_of_code : (ss : List Section) (test : Section → Bool) (side : ℤ → Bool) (xs : List ℕ) (c : ℕ) → ((i : ℕ) → i < length ss → eqb (section_of ss i).settlement c ≡ true → test (section_of ss i) ≡ side (position_of (section_of ss i))) → of_code ss c (chosen ss test xs) ≡ side_of ss side c xs
chosen_of_code ss test side xs c same = sum_same ◌+◌ 0 naturals (length ss) _ _ (λ i h. one i h (eqb (section_of ss i).settlement c) (same i h))
  where
    one : (i : ℕ) → i < length ss → (t : Bool) → (t ≡ true → test (section_of ss i) ≡ side (position_of (section_of ss i)))
        → cond t (entry (chosen ss test xs) i) 0 ≡ cond (side (position_of (section_of ss i)) && t) (entry xs i) 0
    one i h t same =
        under_same t _ _ (λ e. listed_at (length ss) (λ (j : ℕ). cond (test (section_of ss j)) (entry xs j) 0) i 0 h ∙ ap (λ (u : Bool). cond u (entry xs i) 0) (same e))
        ∙ sym (under_two (side (position_of (section_of ss i))) t (entry xs i))

-- lots of one side only are all on it, and none on another
module _ (ss : List Section) (test : Section → Bool) (xs ys : List ℕ) (long : length ys ≡ length ss) (each : (i : ℕ) → entry ys i ≤ entry (chosen ss test xs) i) where
  -- a section that the test leaves out has none
  pub left_out : (i : ℕ) → i < length ss → test (section_of ss i) ≡ false → entry ys i ≡ 0
  left_out i h e = omega (arith, each i, listed_at (length ss) (λ (j : ℕ). cond (test (section_of ss j)) (entry xs j) 0) i 0 h ∙ ap (λ (t : Bool). cond t (entry xs i) 0) e)

  pub side_all : (side : ℤ → Bool) → ((i : ℕ) → i < length ss → side (position_of (section_of ss i)) ≡ false → test (section_of ss i) ≡ false) → all_of ss side ys ≡ total ys
  side_all side same =
      sum_same ◌+◌ 0 naturals (length ss) _ _ (λ i h. go i h (side (position_of (section_of ss i))) refl)
      ∙ total_long ys (length ss) long
    where
      go : (i : ℕ) → i < length ss → (t : Bool) → side (position_of (section_of ss i)) ≡ t → cond (side (position_of (section_of ss i))) (entry ys i) 0 ≡ entry ys i
      go i h true e = ap (λ (t : Bool). cond t (entry ys i) 0) e
      go i h false e = ap (λ (t : Bool). cond t (entry ys i) 0) e ∙ sym (left_out i h (same i h e))

  pub lots_none : (pick : Section → Bool) → ((i : ℕ) → i < length ss → pick (section_of ss i) ≡ true → test (section_of ss i) ≡ false) → lots_of ss pick ys ≡ 0
  lots_none pick apart = sum_nothing ◌+◌ 0 naturals (length ss) _ (λ i h. under_none (pick (section_of ss i)) (entry ys i) (λ e. left_out i h (apart i h e)))

-- what giving over all codes comes to
pub across_given : (ss : List Section) → ((i : ℕ) → i < length ss → (section_of ss i).settlement < 64) → Told ss → (d : ℤ) (left : List ℕ) → Given ss (chosen ss (λ (s : Section). opposed (position_of s) d) left) (code_caps ss d left) (nat_abs d) (given_across ss d left)
across_given ss codes told d left =
    let lots = chosen ss (λ (s : Section). opposed (position_of s) d) left in
    subst (Given ss lots (code_caps ss d left) (nat_abs d)) (taken_across ss told codes d left) (given ss lots ltb (code_caps ss d left) (nat_abs d))

-- `mine` is the side that gives, `other` the side of what is open
module _ (ss : List Section) (codes : (i : ℕ) → i < length ss → (section_of ss i).settlement < 64) (told : Told ss) (left : List ℕ) (d : ℤ) (mine other : ℤ → Bool) (faced : (p : ℤ) → opposed p d ≡ mine p) (apart : (p : ℤ) → other p ≡ true → mine p ≡ false) (net_cap : (c : ℕ) → c < 64 → code_cap ss d left c ≡ side_of ss mine c left - side_of ss other c left) (more : nat_abs d + all_of ss other left ≡ all_of ss mine left) where
  abbrev facing : Section → Bool
  facing s = opposed (position_of s) d

  giving : Given ss (chosen ss facing left) (code_caps ss d left) (nat_abs d) (given_across ss d left)
  giving = across_given ss codes told d left

  -- code by code, all that a code has over what it has on the other side
  at_least : ((c : ℕ) → of_code ss c (given_across ss d left) ≡ min (entry (code_caps ss d left) c) (of_code ss c (chosen ss facing left))) → all_of ss mine left ≤ total (given_across ss d left) + all_of ss other left
  at_least each =
      let a = given_across ss d left in
      let by_code : total (listed 64 (λ (c : ℕ). of_code ss c a)) ≡ total a =
      sum_classes ◌+◌ 0 naturals (length ss) 64 (λ (i : ℕ). (section_of ss i).settlement) (entry a) codes ∙ total_long a (length ss) giving.long in
      omega (arith, sum_within 64 (λ (c : ℕ). side_of ss mine c left) (λ (c : ℕ). of_code ss c a + side_of ss other c left) (λ c h. omega (arith, each c, listed_at 64 (code_cap ss d left) c 0 h, net_cap c h, chosen_of_code ss facing mine left c (λ i k e. faced (position_of (section_of ss i))))), sum_both ◌+◌ 0 naturals 64 (λ (c : ℕ). of_code ss c a) (λ (c : ℕ). side_of ss other c left), by_code, side_classes ss mine left codes, side_classes ss other left codes)

  pub closed : total (given_across ss d left) ≡ nat_abs d
  closed = ⊎_elim (λ e. e) (λ each. omega (arith, at_least each, more, giving.needed)) giving.filled

  -- so both sides have the same after it
  pub closed_even : all_of ss mine (less left (given_across ss d left)) ≡ all_of ss other (less left (given_across ss d left))
  closed_even =
      let a = given_across ss d left in
      let within : (i : ℕ) → entry a i ≤ entry left i = λ i. omega (arith, giving.each i, chosen_within ss facing left i) in
      omega (arith, closed, more, lots_less ss (λ (s : Section). mine (position_of s)) left a within, lots_less ss (λ (s : Section). other (position_of s)) left a within, side_all ss facing left a giving.long giving.each mine (λ i h e. faced (position_of (section_of ss i)) ∙ e), lots_none ss facing left a giving.long giving.each (λ (s : Section). other (position_of s)) (λ i h e. faced (position_of (section_of ss i)) ∙ apart (position_of (section_of ss i)) e))
