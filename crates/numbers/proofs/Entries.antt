-- Lists of natural numbers by their entries: an entry and the sum, noughts, and some taken off one entry.
use Rattle.numbers.proofs.Words.{ℕ, ◌+◌, ◌-◌, ◌≤◌, ◌<◌, arith, ◌≡◌, sym, ap, ◌∙◌, cond, List, ⊎_elim, eqb, length, set, replicate, length-set, length-replicate, get_or-replicate, get_or-set_same, get_or-set_other, set_out, entry, total}
use Rattle.numbers.proofs.Sums.{naturals, total-set}
use Rattle.numbers.proofs.Ranges.{Left, get_d_past, chosen_yes, chosen_no, sum_nothing, sum_part, total_entries}
use Rattle.numbers.proofs.Tests.{below_or_not, same_or_not}

module _ (xs : List ℕ) where
  -- an entry above 0 has a place
  pub entry_place : (i : ℕ) → 0 < entry xs i → i < length xs
  entry_place i some = ⊎_elim (λ (h : i < length xs). h) (λ (h : length xs ≤ i). absurd (omega (arith, some, get_d_past xs i 0 h))) (below_or_not i (length xs))

  -- an entry is at most the sum
  pub entry_part : (i : ℕ) → entry xs i ≤ total xs
  entry_part i =
      ⊎_elim (λ (h : i < length xs). omega (arith, sum_part (length xs) (entry xs) i h, total_entries xs)) (λ (h : length xs ≤ i). omega (arith, get_d_past xs i 0 h)) (below_or_not i (length xs))

  -- where the entries that have a place are 0, all are, and so is the sum
  module _ (none : (i : ℕ) → i < length xs → entry xs i ≡ 0) where
    pub none_past : (i : ℕ) → entry xs i ≡ 0
    none_past i = ⊎_elim (λ (h : i < length xs). none i h) (λ (h : length xs ≤ i). get_d_past xs i 0 h) (below_or_not i (length xs))

    pub none_total : total xs ≡ 0
    none_total = sym (total_entries xs) ∙ sum_nothing ◌+◌ 0 naturals (length xs) (entry xs) none

-- a list of noughts
pub noughts_at : (n i : ℕ) → entry (replicate n 0) i ≡ 0
noughts_at n = none_past (replicate n 0) (λ i h. get_or-replicate n i 0 0 (omega (arith, h, length-replicate {A = ℕ} n 0)))

pub noughts_known : {xs : List ℕ} (n : ℕ) → xs ≡ replicate n 0 → (i : ℕ) → entry xs i ≡ 0
noughts_known n e i = ap (λ (ys : List ℕ). entry ys i) e ∙ noughts_at n i

pub noughts_total : (n : ℕ) → total (replicate n 0) ≡ 0
noughts_total n = none_total (replicate n 0) (λ i h. noughts_at n i)

-- one entry is changed and stays within
pub left_set : (all left : List ℕ) (i n : ℕ) → i < length left → n ≤ entry all i → Left all left → Left all (set left i n)
left_set all left i n place le h =
    record {
      long = length-set left i n ∙ h.long;
      within = λ j.
          ⊎_elim (λ (e : j ≡ i). omega (arith, le, ap (entry (set left i n)) e, ap (entry all) e, get_or-set_same left i n 0 place))
          (λ (e : j ≡ i → ⊥). omega (arith, get_or-set_other left i j n 0 e, h.within j))
          (same_or_not j i);
    }

-- some is taken off one entry
module _ (xs : List ℕ) (i some : ℕ) (within : some ≤ entry xs i) where
  abbrev off : List ℕ
  off = set xs i (entry xs i - some)

  -- past the end there is nothing to take
  past_same : length xs ≤ i → off ≡ xs
  past_same h = set_out xs i (entry xs i - some) h

  off_here : entry off i + some ≡ entry xs i
  off_here =
      ⊎_elim (λ (h : i < length xs). omega (arith, within, get_or-set_same xs i (entry xs i - some) 0 h))
      (λ (h : length xs ≤ i). omega (arith, within, ap (λ (ys : List ℕ). entry ys i) (past_same h), get_d_past xs i 0 h))
      (below_or_not i (length xs))

  -- each entry is what is taken off it and what is left of it
  pub off_entry : (j : ℕ) → cond (eqb i j) some 0 + entry (set xs i (entry xs i - some)) j ≡ entry xs j
  off_entry j =
      ⊎_elim (λ (e : i ≡ j). omega (arith, off_here, chosen_yes i j some 0 e, ap (entry off) e, ap (entry xs) e))
      (λ (e : i ≡ j → ⊥). omega (arith, chosen_no i j some 0 e, get_or-set_other xs i j (entry xs i - some) 0 (λ s. e (sym s))))
      (same_or_not i j)

  -- and so is the sum
  pub off_total : some + total (set xs i (entry xs i - some)) ≡ total xs
  off_total =
      ⊎_elim (λ (h : i < length xs). omega (arith, within, total-set ◌+◌ 0 naturals xs i (entry xs i - some) h))
      (λ (h : length xs ≤ i). omega (arith, within, ap total (past_same h), get_d_past xs i 0 h))
      (below_or_not i (length xs))
