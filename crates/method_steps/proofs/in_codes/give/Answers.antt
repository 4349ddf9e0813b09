-- The calls' `ensures`, one after the other.
use Rattle.numbers.proofs.Words.{ℕ, arith, ap, ap₂, ◌∙◌, List, length, entry, total}
use Rattle.numbers.proofs.Front.{Front, front_of}
use Rattle.numbers.proofs.Ranges.{listed-length}
use Rattle.rules.specs.Expiry.{lower_section_code}
use Rattle.method_laws.specs.Giving.{sooner, in_order, taken}
use Rattle.method_laws.proofs.Shares.{taken_sizes}
use Rattle.method_laws.proofs.Columns.{told}
use Rattle.method_steps.proofs.Laws.{noughts, sizes_small}
use Rattle.method_steps.proofs.in_codes.give.Goals as goal

pub sum-need-requires : goal.sum-need-requires
sum-need-requires c = (
  omega arith,
  λ i. omega (arith, ap (λ (caps : List ℕ). entry caps i) c.magnitudes.ensures, sizes_small 128_000_000 c.args.numbers.now c.requires.nets_small i),
)

pub returns-clause-given_after : goal.returns-clause-given_after
returns-clause-given_after c = λ ss columns.
    let a = c.args in
    let lots = c.on_side_in_codes.new.out in
    let front : Front (length a.kept.now) noughts lots = front_of (length a.kept.now) noughts lots c.requires.held.0.few c.on_side_in_codes.auto.out in
    let give : List ℕ → List ℕ → ℕ → List ℕ = λ (lots caps : List ℕ) (need : ℕ). taken ss (in_order (sooner a.outside) (lower_section_code ss) lots (length ss)) lots caps need in
    c.give.ensures.given_after ss columns
    ∙ ap₂ (λ (lots caps : List ℕ). give lots caps c.sum-need.result) (front.is ∙ c.on_side_in_codes.ensures.out_after ss columns.codes_are columns.positions_are) c.magnitudes.ensures
    ∙ ap (give _ _) (c.sum-need.ensures ∙ ap total c.magnitudes.ensures)
    ∙ taken_sizes ss (told ss a.columns.codes.now a.columns.positions.now a.columns.keys.now columns) a.outside _ a.numbers.now (listed-length (length ss) _)
