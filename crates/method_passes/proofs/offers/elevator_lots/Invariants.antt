-- The loop's invariant: the list has the sums of the first k notices.
use Rattle.method_passes.proofs.Offered.{Summed}
use Rattle.method_passes.proofs.offers.elevator_lots.Given as goal

abbrev pub invariant-loop-k : goal.invariant-loop-k
invariant-loop-k l = Summed l.stands l.drawn l.out l.k
