-- A product within 10^6 · 10^9 fits. The fields are stored as bits, and read back as themselves.
use Rattle.numbers.proofs.Words.{◌≤◌, mul-le-mul, arith, ◌≡◌, ap, ap₂, ◌∙◌, ℤ, nat_abs, ◌*ℤ◌, w64, SFits, to_z, of_z}
use Rattle.numbers.proofs.Whole.{sfits_size, size_product, read_back}
use Rattle.rules.specs.Units.{worth}
use Rattle.value.proofs.worth.Goals as goal
use Rattle.value.proofs.worth.Goals.{After-struct_told-2-1}

fits : (x y : ℤ) → (nat_abs x ≤ 1_000_000) × (nat_abs y ≤ 1_000_000_000) → SFits w64 (x *ℤ y)
fits x y h = sfits_size w64 _ (omega (arith, size_product x y, mul-le-mul h.0 h.1))

module _ (c : After-struct_told-2-1) where
  lots_back : to_z w64 (of_z w64 c.args.lots.0) ≡ c.args.lots.0
  lots_back = read_back w64 _ c.struct_told-1.given.0.1

  value_back : to_z w64 (of_z w64 c.args.value.0) ≡ c.args.value.0
  value_back = read_back w64 _ c.struct_told-2-1.given.0.1

-- what the call returned is the product, and it is stored and read back once more
pub returns : goal.returns
unfolding worth
returns c =
    let start = c in
    let whole : c.product.result ≡ start.args.lots.0 *ℤ start.args.value.0 = c.product.ensures ∙ ap₂ ◌*ℤ◌ (lots_back c.before) (value_back c.before) in
    ap (λ (z : ℤ). record { 0 = z }) (ap (λ (z : ℤ). to_z w64 (of_z w64 z)) whole ∙ read_back w64 _ (fits start.args.lots.0 start.args.value.0 start.requires).sfits)
