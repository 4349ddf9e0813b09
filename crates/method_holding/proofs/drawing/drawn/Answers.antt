use Rattle.numbers.proofs.Words.{rules, ℕ, ◌+◌, ◌-◌, ◌*◌, min, ◌≤◌, ◌<◌, arith, ◌≡◌, refl, ap, ap₂, ◌∙◌, cond, List, length, set, ℤ, entry, entry_ℤ}
use Rattle.numbers.proofs.Sums.{naturals}
use Rattle.numbers.proofs.Filled.{filled_none, filled_next, filled_end}
use Rattle.numbers.proofs.Ranges.{listed_most}
use Rattle.numbers.proofs.Tally.{tally_none, tally_next}
use Rattle.numbers.proofs.Whole.{read_as}
use Rattle.rules.specs.Expiry.{is_short}
use Rattle.method_laws.specs.Columns.{Small}
use Rattle.method_laws.proofs.Columns.{noticed_first, noticed_within}
use Rattle.method_holding.proofs.Laws.{piece, piece_within, pieces_all}
use Rattle.method_holding.proofs.drawing.drawn.Goals as goal

-- what the notices before the next one have of a section
used_within : (sellers lots before : List ℕ) (k i : ℕ) → Small lots → before ≡ noticed_first 128 sellers lots k → entry before i ≤ 1_000_000 * k
used_within sellers lots before k i small e = omega (arith, ap (λ (xs : List ℕ). entry xs i) e, noticed_within 128 sellers lots 1_000_000 small k i)

pub loop-k-init : goal.loop-k-init
loop-k-init c = (filled_none _ _, tally_none ◌+◌ 0 naturals _ _ 128)

pub overflow_add-before : goal.overflow_add-before
overflow_add-before c =
    let a = c.args in
    omega (
      arith,
      used_within a.sellers.now a.lots.now c.loop-k.before c.loop-k.k (entry a.sellers.now c.loop-k.k) c.requires.below.1 c.loop-k.invariant.1,
      c.requires.below.1 c.loop-k.k,
    )

pub loop-k-preserved : goal.loop-k-preserved
loop-k-preserved c =
    let a = c.args in
    let k = c.loop-k.k in
    let i = entry a.sellers.now k in
    let own = entry a.lots.now k in
    let held : i < length a.positions.now = c.requires.below.0 k (omega arith) in
    let cut : List ℕ → ℕ = λ (before : List ℕ). min own (entry a.first.now i - entry before i) in (
      filled_next c.loop-k.invariant.0 (omega arith) c.share.result
          (c.share.ensures
          ∙ read_as (λ (z : ℤ). cond (is_short z) (cut c.loop-k.before) 0) (entry_ℤ a.positions.now i) (search rules)
          ∙ ap (λ (before : List ℕ). cond (is_short (entry_ℤ a.positions.now i)) (cut before) 0) c.loop-k.invariant.1),
      ap₂ (λ (before : List ℕ) (n : ℕ). set before i (n + own)) c.loop-k.invariant.1 (ap (λ (before : List ℕ). entry before i) c.loop-k.invariant.1)
          ∙ tally_next ◌+◌ 0 naturals (entry a.sellers.now) (entry a.lots.now) 128 k _ (omega (arith, held)) refl,
    )

pub returns : goal.returns
returns c =
    let a = c.args in
    let pieces = piece a.positions.now a.sellers.now a.lots.now a.first.now in
    let all = filled_end c.loop-k.invariant.0 (omega arith) (length a.sellers.now) (omega arith) in record {
      out_after = λ ss ns p e l. all ∙ pieces_all a.positions.now a.sellers.now a.lots.now a.first.now ss ns p e l (λ k h. omega (arith, c.requires.below.0 k h));
      small = λ k.
          rw all
          (listed_most (length a.sellers.now) pieces (λ (j : ℕ). 1_000_000) (λ j. omega (arith, piece_within a.positions.now a.sellers.now a.lots.now a.first.now j, c.requires.below.1 j)) k);
    }
