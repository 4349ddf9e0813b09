-- The calls' `ensures`, one after the other.
use Rattle.numbers.proofs.Words.{ℕ, arith, ap, ap₂, ◌∙◌, List, map, map-map, ℤ, nat_abs, w64, to_z-of_z, entry, listed, less}
use Rattle.numbers.proofs.Ranges.{less_at}
use Rattle.rules.specs.Book.{position_of}
use Rattle.rules.specs.Expiry.{net_of_code}
use Rattle.rules.specs.Expiry.Codes.{d_of_codes, given_in_codes}
use Rattle.rules.specs.Expiry.Across.{d_overall, given_across}
use Rattle.rules.specs.Expiry.Call
use Rattle.method_steps.proofs.Laws.{sizes_small}
use Rattle.method_steps.proofs.remaining.remaining.Goals as goal

pub close_codes-d-requires-clause-nets_small : goal.close_codes-d-requires-clause-nets_small
close_codes-d-requires-clause-nets_small c = (
  c.nets.ensures.out_len.1,
  λ i.
      omega (
        arith,
        ap (λ (xs : List ℕ). entry xs i) c.less.ensures,
        less_at c.magnitudes.new.out c.args.failed.now i,
        ap (λ (xs : List ℕ). entry xs i) c.magnitudes.ensures,
        sizes_small 1_000_000 c.args.columns.positions.now c.requires.0.position i,
      ),
)

pub returns-clause-kept_after : goal.returns-clause-kept_after
unfolding Call.remaining d_of_codes
returns-clause-kept_after c = λ ss ns columns failed_are.
    let sizes = c.magnitudes.ensures ∙ ap (map nat_abs) columns.positions_are ∙ map-map nat_abs position_of ss in
    let sound = c.less.ensures ∙ ap₂ less sizes failed_are in
    let gaps = c.nets.ensures.out_after ss columns.codes_are columns.positions_are ∙ ap (λ (lots : List ℕ). listed 64 (net_of_code ss lots)) failed_are in
    c.close_across.ensures.kept_after ss columns
    ∙ ap₂ (λ (lots : List ℕ) (d : ℤ). less lots (given_across ss d lots))
    (c.close_codes-d.ensures.kept_after ss columns ∙ ap₂ (λ (gs : List ℤ) (lots : List ℕ). less lots (given_in_codes ss gs lots)) gaps sound)
    (to_z-of_z {w = w64} (record { sfits = c.close_codes-d.type_inv }) ∙ c.close_codes-d.ensures.value ss columns ∙ ap₂ (λ (gs : List ℤ) (lots : List ℕ). d_overall ss gs (given_in_codes ss gs lots)) gaps sound)
