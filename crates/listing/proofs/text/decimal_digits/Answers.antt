use Rattle.numbers.proofs.Words.{arith, ◌≡◌, ◌∙◌, ◌-◌, ap, ℕ, length, length-drop, take, take-length, drop}
use Rattle.numbers.specs.Text.{decimal}
use Rattle.listing.proofs.Laws.Laid.{laid_copied}
use Rattle.listing.proofs.text.decimal_digits.Goals as goal

pub returns : goal.returns
returns c =
    let from = c.laid-from.result in
    let digits = c.laid-from.new.digits in
    let written = drop from digits in
    let long : 20 - from ≡ length written = omega (arith, length-drop from digits, c.laid-from.auto.digits) in
    let whole : take (20 - from) written ≡ written = ap (λ (n : ℕ). take n written) long ∙ take-length written in
    let same : c.copy_from_slice.new.self ≡ decimal c.args.n = c.copy_from_slice.ensures.after ∙ whole ∙ c.laid-from.ensures.1 in
    let count : 20 - from ≡ length (decimal c.args.n) = long ∙ ap length c.laid-from.ensures.1 in
    laid_copied c.args.out.now c.args.at _ (decimal c.args.n) c.copy_from_slice.new.self _ same (omega arith) (omega arith)
