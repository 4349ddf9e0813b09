-- The loop's invariant: the lines kept of the first k are in their places.
use Rattle.method_removal.proofs.Keeping.{Kept}
use Rattle.method_removal.proofs.kept_lines.Given as goal

abbrev pub invariant-loop-k : goal.invariant-loop-k
invariant-loop-k l = Kept l.participants l.g l.kept l.k
