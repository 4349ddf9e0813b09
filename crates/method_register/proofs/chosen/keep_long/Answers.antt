use Rattle.numbers.proofs.Words.{ℕ, arith, ◌≡◌, ap₂, ◌∙◌, cond, ℤ, w64, to_z, of_z, entry_ℤ}
use Rattle.numbers.proofs.Filled.{filled_none, filled_next, filled_here}
use Rattle.numbers.proofs.Whole.{read_back}
use Rattle.rules.specs.Expiry.{is_long}
use Rattle.method_register.proofs.chosen.keep_long.Goals as goal

pub loop-i-init : goal.loop-i-init
loop-i-init c = filled_none _ c.args.lots.now

pub loop-i-preserved : goal.loop-i-preserved
loop-i-preserved c =
    let z = entry_ℤ c.args.positions.now c.loop-i.i in
    let position_read : to_z w64 (of_z w64 z) ≡ z = read_back w64 _ search in
    filled_next c.loop-i.invariant (omega arith) c.kept_if.result
    (c.kept_if.ensures ∙ ap₂ (λ (z : ℤ) (n : ℕ). cond (is_long z) n 0) position_read (filled_here c.loop-i.invariant (omega arith) 0))
