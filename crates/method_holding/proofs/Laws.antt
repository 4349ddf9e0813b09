-- What the walks over the columns add up, and what that is of the sections and the notices that have these columns.
use Rattle.numbers.proofs.Words.{ℕ, ◌-◌, ◌*◌, min, ◌≤◌, ◌<◌, arith, ◌≡◌, refl, ap, ap₂, ◌∙◌, cond, eqb, List, length, take, ℤ, pos, negsuc, neg_ℤ, nat_abs, ◌+ℤ◌, listed, entry, entry_ℤ}
use Rattle.rules.specs.declared.book.{Section.Section, Notice.Notice}
use Rattle.numbers.proofs.Sums.{wholes}
use Rattle.numbers.proofs.Ranges.{sum_same, listed_same}
use Rattle.numbers.proofs.Tally.{tally, tally_within}
use Rattle.numbers.proofs.Under.{under_within}
use Rattle.numbers.proofs.Whole.{size, negated, sum_within}
use Rattle.rules.specs.Book.{position_of, section_of, notice_of}
use Rattle.rules.specs.Expiry.{is_short, on_side_of, net_of_code}
use Rattle.rules.specs.Expiry.Failing.{noticed}
use Rattle.rules.specs.Expiry.Drawing.{drawn}
use Rattle.rules.specs.Expiry.Passes.{sellers_in}
use Rattle.method_laws.specs.Columns.{settlements_of, positions_of, notice_lots_in}
use Rattle.method_laws.proofs.Columns.{code_at, position_at, codes_long, seller_at, lots_at_lem, sellers_long, noticed_first, noticed_at}

on_side_size : (z : ℤ) (n : ℕ) → nat_abs (on_side_of z n) ≡ n
on_side_size (pos m) n = refl
on_side_size (negsuc m) n = omega (arith, negated (pos n), size (neg_ℤ (pos n)))

-- what section i adds to the net of its code
abbrev pub sided : List ℤ → List ℕ → ℕ → ℤ
sided positions lots i = on_side_of (entry_ℤ positions i) (entry lots i)

pub sided_within : (positions : List ℤ) (lots : List ℕ) (limit i : ℕ) → entry lots i ≤ limit → nat_abs (sided positions lots i) ≤ limit
sided_within positions lots limit i h = omega (arith, h, on_side_size (entry_ℤ positions i) (entry lots i))

module _ (codes : List ℕ) (positions : List ℤ) (lots : List ℕ) where
  -- the nets of the first k sections
  abbrev pub nets_of : ℕ → List ℤ
  nets_of = tally ◌+ℤ◌ (pos 0) wholes (entry codes) (sided positions lots) 64

  pub nets_within : (limit : ℕ) → ((i : ℕ) → entry lots i ≤ limit) → (k c : ℕ) → nat_abs (entry_ℤ (nets_of k) c) ≤ limit * k
  nets_within limit small =
      tally_within ◌+ℤ◌ (pos 0) wholes (entry codes) (sided positions lots) 64 nat_abs refl (λ x y. sum_within x y (omega arith) (omega arith)) limit (λ j. sided_within positions lots limit j (small j))

  -- all of them
  pub nets_all : (ss : List Section) → codes ≡ settlements_of ss → positions ≡ positions_of ss → nets_of (length codes) ≡ listed 64 (net_of_code ss lots)
  unfolding net_of_code
  nets_all ss e p =
      ap nets_of (codes_long ss e)
      ∙ listed_same 64 _ _
      (λ c h.
      sum_same ◌+ℤ◌ (pos 0) wholes (length ss) _ _
      (λ i l. ap₂ (λ (code : ℕ) (position : ℤ). cond (eqb code c) (on_side_of position (entry lots i)) (pos 0)) (code_at ss e i) (position_at ss p i)))

module _ (positions : List ℤ) (sellers lots first : List ℕ) where
  -- what notice k has of its section's first lots
  abbrev pub piece : ℕ → ℕ
  piece k =
      let i = entry sellers k in
      cond (is_short (entry_ℤ positions i)) (min (entry lots k) (entry first i - entry (noticed_first 128 sellers lots k) i)) 0

  pub piece_within : (k : ℕ) → piece k ≤ entry lots k
  piece_within k =
      let i = entry sellers k in
      omega (arith, under_within (is_short (entry_ℤ positions i)) (min (entry lots k) (entry first i - entry (noticed_first 128 sellers lots k) i)))

  -- all of them
  pub pieces_all : (ss : List Section) (ns : List Notice) → positions ≡ positions_of ss → sellers ≡ sellers_in ns → lots ≡ notice_lots_in ns → ((k : ℕ) → k < length sellers → entry sellers k < 128) → listed (length sellers) piece ≡ drawn ss ns first
  unfolding drawn
  pieces_all ss ns p e l small =
      ap (λ (n : ℕ). listed n piece) (sellers_long ns e)
      ∙ listed_same (length ns) _ _
      (λ k h.
      let i = entry sellers k in
      ap₂ (λ (own filed : ℕ). cond (is_short (entry_ℤ positions i)) (min own (entry first i - filed)) 0) (lots_at_lem ns l k) (noticed_at 128 ns sellers lots e l k (omega (arith, h)) i (small k (omega (arith, h, sellers_long ns e))))
      ∙ ap₂ (λ (position : ℤ) (j : ℕ). cond (is_short position) (min (nat_abs (notice_of ns k).lots.0) (entry first j - noticed (take k ns) j)) 0) (position_at ss p i ∙ ap (λ (j : ℕ). position_of (section_of ss j)) (seller_at ns e k)) (seller_at ns e k))
