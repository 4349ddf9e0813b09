use Rattle.numbers.proofs.Words.{arith, ap, ◌∙◌, Bool, cond, entry}
use Rattle.numbers.proofs.Filled.{filled_none, filled_next}
use Rattle.method_removal.proofs.removed_lots.Goals as goal

pub loop-k-init : goal.loop-k-init
loop-k-init c = filled_none _ _

pub loop-k-preserved : goal.loop-k-preserved
loop-k-preserved c =
    filled_next c.loop-k.invariant (omega arith) c.removed.result (c.removed.ensures ∙ ap (λ (same : Bool). cond same (entry c.args.g.lots c.loop-k.k) 0) c.same_person-same.ensures)
