use Rattle.numbers.proofs.Words.{ℕ, ◌*◌, ◌≡◌, ◌∙◌, ap, nat_abs, w64}
use Rattle.numbers.proofs.Whole.{read_back}
use Rattle.rules.specs.Units.{tonnes_of}
use Rattle.listing.proofs.rows.tonnes.Goals as goal

pub returns : goal.returns
unfolding tonnes_of
returns c =
    let size_is : c.size-size.result ≡ nat_abs c.args.lots.0 = c.size-size.ensures ∙ ap nat_abs (read_back w64 c.args.lots.0 (search)) in
    ap (λ (n : ℕ). record { 0 = n * c.args.lot.0 }) size_is
