-- Nothing is shifted out of the width.
use Rattle.numbers.proofs.Words.{arith, ◌*◌, ◌%◌, ◌≡◌, ◌∙◌, ◌^◌}
use Rattle.std.proofs.Math.Pow.{shl_exact, pow_mono}
use Rattle.method_patterns.proofs.patterns.pattern_count.Goals as goal

pub returns : goal.returns
returns c =
    let k = c.args.named in
    let is : (1 * 2 ^ k) % 2 ^ 32 ≡ 2 ^ k = shl_exact 1 k 32 (omega arith) (omega (arith, c.requires)) ∙ omega arith in
    (is, omega (arith, is, pow_mono {i = k} {j = 10} c.requires))
