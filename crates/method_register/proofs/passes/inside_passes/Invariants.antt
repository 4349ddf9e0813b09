-- The loop's invariant: what the passes of the first c codes form, `Ran`.
use Rattle.method_register.proofs.Laws.{Ran}
use Rattle.method_register.proofs.passes.inside_passes.Given as goal

abbrev pub invariant-loop-c : goal.invariant-loop-c
invariant-loop-c l = Ran l.columns.codes.now l.columns.keys.now l.buyers l.drawn.sellers.now l.drawn.stands.now l.drawn.lots.now l.formed l.c
