use Rattle.numbers.proofs.Words.{arith, [], ◌∷◌}
use Rattle.numbers.specs.Text.{decimal}
use Rattle.listing.proofs.Laws.Laid.{laid_then, laid_byte}
use Rattle.listing.proofs.text.number.Goals as goal

pub returns : goal.returns
returns c =
    let d = c.decimal_digits-next in
    laid_then (decimal c.args.n) (c.args.end ∷ []) d.ensures (omega arith)
    (laid_byte d.new.out _ c.args.end (omega (arith, d.ensures.ends, d.auto.out)))
