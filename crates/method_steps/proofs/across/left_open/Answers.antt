use Rattle.numbers.proofs.Words.{rules, ℕ, ◌+◌, ◌*◌, ◌≤◌, ◌<◌, arith, add-one, ◌≡◌, refl, sym, ap, ap₂, ◌∙◌, List, ℤ, pos, nat_abs, ◌+ℤ◌, w64, SFits, to_z, of_z, to_z-of_z, entry_ℤ, counted, listed, gathered, total_ℤ}
use Rattle.numbers.proofs.Sums.{wholes}
use Rattle.numbers.proofs.Ranges.{sum_more}
use Rattle.numbers.proofs.Whole.{sum_within, sfits_size, read_back}
use Rattle.method_laws.specs.Columns.{NetsSmall}
use Rattle.method_steps.proofs.across.left_open.Invariants.{rest}
use Rattle.method_steps.proofs.across.left_open.Goals as goal

module _ (gaps nets : List ℤ) (gaps_small : NetsSmall gaps) (nets_small : NetsSmall nets) (c : ℕ) where
  abbrev gap : ℤ
  gap = entry_ℤ gaps c

  abbrev net : ℤ
  net = entry_ℤ nets c

  both_small : nat_abs (gap +ℤ net) ≤ 256_000_000
  both_small = omega (arith, sum_within gap net (gaps_small c) (nets_small c))

  -- what the first addition leaves
  both : to_z w64 (of_z w64 gap) ≡ gap → to_z w64 (of_z w64 net) ≡ net → to_z w64 (of_z w64 (to_z w64 (of_z w64 gap) +ℤ to_z w64 (of_z w64 net))) ≡ gap +ℤ net
  both gap_read net_read = ap (λ (z : ℤ). to_z w64 (of_z w64 z)) (ap₂ ◌+ℤ◌ gap_read net_read) ∙ to_z-of_z (sfits_size w64 _ (omega (arith, both_small)))

  -- and with the sum so far
  module _ (d : ℤ) (d_small : nat_abs d ≤ 256_000_000 * c) where
    within : nat_abs (d +ℤ (gap +ℤ net)) ≤ 256_000_000 * (c + 1)
    within = omega (arith, sum_within d (gap +ℤ net) d_small both_small)

    fits : c < 64 → SFits w64 (d +ℤ (gap +ℤ net))
    fits h = sfits_size w64 _ (omega (arith, within, h))

    more : d ≡ total_ℤ (listed c (rest gaps nets)) → d +ℤ (gap +ℤ net) ≡ total_ℤ (listed (c + 1) (rest gaps nets))
    more e = ap (λ (z : ℤ). z +ℤ (gap +ℤ net)) e ∙ sym (sum_more ◌+ℤ◌ (pos 0) wholes c (rest gaps nets)) ∙ ap (λ (n : ℕ). total_ℤ (listed n (rest gaps nets))) (sym (add-one c))

pub loop-c-init : goal.loop-c-init
unfolding counted gathered
loop-c-init c = (refl, omega arith)

pub loop-c-preserved : goal.loop-c-preserved
loop-c-preserved c =
    let a = c.args in
    let i = c.loop-c.c in
    let gaps_small = c.requires.nets_small.0 in
    let nets_small = c.requires.nets_small.1 in
    let d = to_z w64 c.loop-c.d-bits in
    let gap_read : to_z w64 (of_z w64 (entry_ℤ a.gaps.now i)) ≡ entry_ℤ a.gaps.now i = read_back w64 _ (search rules) in
    let net_read : to_z w64 (of_z w64 (entry_ℤ a.nets.now i)) ≡ entry_ℤ a.nets.now i = read_back w64 _ (search rules) in
    let added = d +ℤ to_z w64 (of_z w64 (to_z w64 (of_z w64 (entry_ℤ a.gaps.now i)) +ℤ to_z w64 (of_z w64 (entry_ℤ a.nets.now i)))) in
    let stored : to_z w64 (of_z w64 added) ≡ d +ℤ rest a.gaps.now a.nets.now i =
    ap (λ (z : ℤ). to_z w64 (of_z w64 (d +ℤ z))) (both a.gaps.now a.nets.now gaps_small nets_small i gap_read net_read)
    ∙ to_z-of_z (fits a.gaps.now a.nets.now gaps_small nets_small i d c.loop-c.invariant.1 (omega arith)) in (
      stored ∙ more a.gaps.now a.nets.now gaps_small nets_small i d c.loop-c.invariant.1 c.loop-c.invariant.0,
      omega (arith, within a.gaps.now a.nets.now gaps_small nets_small i d c.loop-c.invariant.1, ap nat_abs stored),
    )
