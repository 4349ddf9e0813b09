use Rattle.numbers.proofs.Words.{arith, ◌≡◌, sym, ap, ap₂, subst₂, ◌∙◌, ℤ, ◌-ℤ◌, w64, SFits, to_z, of_z, to_z-of_z}
use Rattle.rules.specs.declared.units.{Kopecks.Kopecks}
use Rattle.numbers.proofs.Whole.{difference_within, sfits_size, read_back}
use Rattle.value_laws.proofs.Value.{worth_within}
use Rattle.rules.specs.Units.{worth}
use Rattle.rules.specs.Book.{basis_of}
use Rattle.rules.specs.Calls.{margin_of}
use Rattle.call_session.proofs.margin.Goals as goal
use Rattle.call_session.proofs.margin.Goals.{After-struct_told-1, After-struct_told-2-1, Start}

fits : (c : Start) → SFits w64 ((worth c.args.s.position c.args.value).0 -ℤ basis_of c.args.s)
fits c =
    sfits_size w64 _
    (omega (arith, difference_within (worth c.args.s.position c.args.value).0 (basis_of c.args.s) (worth_within _ _ c.requires.s_bound.0 c.requires.value_bound) c.requires.s_bound.1))

basis_read : (c : After-struct_told-1) → to_z w64 (of_z w64 (basis_of c.args.s)) ≡ basis_of c.args.s
basis_read c = read_back w64 _ (search)

worth_read : (c : After-struct_told-2-1) → to_z w64 (of_z w64 c.worth-worth.result.0) ≡ (worth c.args.s.position c.args.value).0
worth_read c = read_back w64 _ (search) ∙ ap (λ (k : Kopecks). k.0) c.worth-worth.ensures

pub difference-requires : goal.difference-requires
difference-requires c = subst₂ (λ (x y : ℤ). SFits w64 (x -ℤ y)) (sym (worth_read c)) (sym (basis_read (goal.at.difference-requires c).After-struct_told-1)) (fits (goal.at.difference-requires c).Start)

pub returns : goal.returns
unfolding margin_of
returns c = ap (λ (z : ℤ). to_z w64 (of_z w64 z)) (c.difference.ensures ∙ ap₂ ◌-ℤ◌ (worth_read (goal.at.returns c).After-struct_told-2-1) (basis_read (goal.at.returns c).After-struct_told-1)) ∙ to_z-of_z (fits (goal.at.returns c).Start)
