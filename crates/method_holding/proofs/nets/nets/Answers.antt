use Rattle.numbers.proofs.Words.{rules, ℕ, ◌+◌, ◌*◌, ◌≤◌, ◌<◌, arith, ◌≡◌, refl, sym, ap, ap₂, subst, ◌∙◌, List, ℤ, pos, nat_abs, ◌+ℤ◌, length, set, w64, SFits, to_z, of_z, to_z-of_z, entry, entry_ℤ}
use Rattle.numbers.proofs.Sums.{wholes}
use Rattle.numbers.proofs.Tally.{tally_none, tally_length, tally_next}
use Rattle.numbers.proofs.Whole.{read_as, sum_within, sfits_size}
use Rattle.rules.specs.Expiry.{on_side_of}
use Rattle.method_laws.specs.Columns.{Small}
use Rattle.method_holding.proofs.Laws.{sided, sided_within, nets_of, nets_within, nets_all}
use Rattle.method_holding.proofs.nets.nets.Goals as goal

module _ (codes : List ℕ) (positions : List ℤ) (lots : List ℕ) (i : ℕ) (out : List ℤ) (e : out ≡ nets_of codes positions lots i) where
  out_long : length out ≡ 64
  out_long = ap length e ∙ tally_length ◌+ℤ◌ (pos 0) wholes _ _ 64 i

  module _ (small : Small lots) where
    out_within : (c : ℕ) → nat_abs (entry_ℤ out c) ≤ 1_000_000 * i
    out_within c = rw e (nets_within codes positions lots 1_000_000 small i c)

    -- the net of the next section's code so far, and with what that section adds
    module _ (place : i < 128) where
      abbrev net : ℤ
      net = entry_ℤ out (entry codes i)

      abbrev more : ℤ
      more = sided positions lots i

      net_fits : SFits w64 net
      net_fits = sfits_size w64 _ (omega (arith, out_within (entry codes i), place))

      fits : SFits w64 (net +ℤ more)
      fits = sfits_size w64 _ (omega (arith, sum_within net more (out_within (entry codes i)) (sided_within positions lots 1_000_000 i (small i)), place))

      -- what the two calls are given and return
      module _ (added : ℤ) (added_fits : SFits w64 added) (added_is : added ≡ more) where
        summands : to_z w64 (of_z w64 net) +ℤ to_z w64 (of_z w64 added) ≡ net +ℤ more
        summands = ap₂ ◌+ℤ◌ (to_z-of_z net_fits) (to_z-of_z added_fits ∙ added_is)

        summands_fit : SFits w64 (to_z w64 (of_z w64 net) +ℤ to_z w64 (of_z w64 added))
        summands_fit = subst (SFits w64) (sym summands) fits

        -- what is written
        written : (sum : ℤ) → sum ≡ to_z w64 (of_z w64 net) +ℤ to_z w64 (of_z w64 added) → entry codes i < 64 → set out (entry codes i) (to_z w64 (of_z w64 sum)) ≡ nets_of codes positions lots (i + 1)
        written sum is code_small =
            ap (λ (out : List ℤ). set out (entry codes i) (to_z w64 (of_z w64 sum))) e
            ∙ tally_next ◌+ℤ◌ (pos 0) wholes (entry codes) (sided positions lots) 64 i (to_z w64 (of_z w64 sum)) code_small
            (ap (λ (z : ℤ). to_z w64 (of_z w64 z)) (is ∙ summands) ∙ to_z-of_z fits ∙ ap (λ (out : List ℤ). entry_ℤ out (entry codes i) +ℤ more) e)

pub loop-i-init : goal.loop-i-init
loop-i-init c = c.requires.codes_len.3 ∙ tally_none ◌+ℤ◌ (pos 0) wholes _ _ 64

pub overflow_add-out : goal.overflow_add-out
overflow_add-out c =
    let a = c.args in
    let i = c.loop-i.i in
    summands_fit a.codes.now a.positions.now a.lots.now i c.loop-i.out c.loop-i.invariant c.requires.below.1 (omega arith) c.on_side_of.result (record { sfits = c.on_side_of.type_inv })
    (c.on_side_of.ensures ∙ read_as (λ (z : ℤ). on_side_of z (entry a.lots.now i)) (entry_ℤ a.positions.now i) (search rules))

pub loop-i-preserved : goal.loop-i-preserved
loop-i-preserved c =
    let a = c.args in
    let i = c.loop-i.i in
    written a.codes.now a.positions.now a.lots.now i c.loop-i.out c.loop-i.invariant c.requires.below.1 (omega arith) c.on_side_of.result (record { sfits = c.on_side_of.type_inv })
    (c.on_side_of.ensures ∙ read_as (λ (z : ℤ). on_side_of z (entry a.lots.now i)) (entry_ℤ a.positions.now i) (search rules)) _ refl (c.requires.below.0 i (omega arith))

pub returns : goal.returns
returns c =
    let a = c.args in
    let all : c.loop-i.i ≡ length a.codes.now = omega arith in record {
      out_after = λ ss e p. c.loop-i.invariant ∙ ap (nets_of a.codes.now a.positions.now a.lots.now) all ∙ nets_all _ _ _ ss e p;
      out_len = (
        out_long a.codes.now a.positions.now a.lots.now c.loop-i.i c.loop-i.out c.loop-i.invariant,
        λ e. omega (arith, out_within a.codes.now a.positions.now a.lots.now c.loop-i.i c.loop-i.out c.loop-i.invariant c.requires.below.1 e),
      );
    }
