use Rattle.calls.proofs.Laws.{printing_next, step_long}
use Rattle.calls.proofs.print_events.Goals as goal

pub loop-place-preserved : goal.loop-place-preserved
loop-place-preserved g c = (printing_next c.loop-place.invariant.0 c.step-shown.ensures, step_long c.step-shown.ensures c.loop-place.invariant.1)
