use Rattle.numbers.proofs.Words.{ℕ, ◌-◌, arith, ap, ◌∙◌, entry}
use Rattle.numbers.proofs.Filled.{filled_none, filled_next, filled_here}
use Rattle.method_giving.proofs.lists.less.Goals as goal

pub loop-i-init : goal.loop-i-init
loop-i-init c = filled_none _ c.args.lots.now

pub loop-i-preserved : goal.loop-i-preserved
loop-i-preserved c =
    let a = c.args in
    filled_next c.loop-i.invariant (omega arith) c.saturating_sub.result
    (c.saturating_sub.ensures ∙ ap (λ (n : ℕ). n - entry a.taken.now c.loop-i.i) (filled_here c.loop-i.invariant (omega arith) 0))
