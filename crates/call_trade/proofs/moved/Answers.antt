use Rattle.numbers.proofs.Words.{arith, ◌≡◌, sym, ap, ap₂, subst₂, ◌∙◌, ℤ, ◌+ℤ◌, w64, SFits, to_z, of_z, to_z-of_z}
use Rattle.rules.specs.declared.units.{Kopecks.Kopecks}
use Rattle.numbers.proofs.Whole.{sum_within, sfits_size, read_back}
use Rattle.value_laws.proofs.Value.{worth_within}
use Rattle.rules.specs.Units.{worth}
use Rattle.rules.specs.Book.{position_of, basis_of}
use Rattle.rules.specs.Calls.{moved}
use Rattle.call_trade.proofs.moved.Goals as goal
use Rattle.call_trade.proofs.moved.Goals.{After-struct_told-1, After-struct_told-2-1, After-struct_told-3-1, After-struct_told-4-1, Start}

position_fits : (c : Start) → SFits w64 (position_of c.args.s +ℤ c.args.lots.0)
position_fits c = sfits_size w64 _ (omega (arith, sum_within (position_of c.args.s) c.args.lots.0 c.requires.s_bound.0 c.requires.lots_bound.0))

basis_fits : (c : Start) → SFits w64 (basis_of c.args.s +ℤ (worth c.args.lots c.args.value).0)
basis_fits c =
    sfits_size w64 _
    (omega (arith, sum_within (basis_of c.args.s) (worth c.args.lots c.args.value).0 c.requires.s_bound.1 (worth_within _ _ c.requires.lots_bound.0 c.requires.lots_bound.1)))

position_read : (c : After-struct_told-1) → to_z w64 (of_z w64 (position_of c.args.s)) ≡ position_of c.args.s
position_read c = read_back w64 _ (search)

basis_read : (c : After-struct_told-2-1) → to_z w64 (of_z w64 (basis_of c.args.s)) ≡ basis_of c.args.s
basis_read c = read_back w64 _ (search)

lots_read : (c : After-struct_told-3-1) → to_z w64 (of_z w64 c.args.lots.0) ≡ c.args.lots.0
lots_read c = read_back w64 _ (search)

worth_read : (c : After-struct_told-4-1) → to_z w64 (of_z w64 c.worth-paid.result.0) ≡ (worth c.args.lots c.args.value).0
worth_read c = read_back w64 _ (search) ∙ ap (λ (k : Kopecks). k.0) c.worth-paid.ensures

pub sum-requires-2 : goal.sum-requires-2
sum-requires-2 c = subst₂ (λ (x y : ℤ). SFits w64 (x +ℤ y)) (sym (basis_read (goal.at.sum-requires-2 c).After-struct_told-2-1)) (sym (worth_read (goal.at.sum-requires-2 c).After-struct_told-4-1)) (basis_fits (goal.at.sum-requires-2 c).Start)

pub returns : goal.returns
unfolding moved
returns c =
    ap₂ (λ (position basis : ℤ). record {
      settlement = c.args.s.settlement;
      code = c.args.s.code;
      participant = c.args.s.participant;
      seller = c.args.s.seller;
      met = c.args.s.met;
      position = record { 0 = position };
      basis = record { 0 = basis };
    })
    (ap (λ (z : ℤ). to_z w64 (of_z w64 z)) (c.sum.ensures ∙ ap₂ ◌+ℤ◌ (position_read (goal.at.returns c).After-struct_told-1) (lots_read (goal.at.returns c).After-struct_told-3-1)) ∙ to_z-of_z (position_fits (goal.at.returns c).Start))
    (ap (λ (z : ℤ). to_z w64 (of_z w64 z)) (c.sum-2.ensures ∙ ap₂ ◌+ℤ◌ (basis_read (goal.at.returns c).After-struct_told-2-1) (worth_read (goal.at.returns c).After-struct_told-4-1)) ∙ to_z-of_z (basis_fits (goal.at.returns c).Start))
