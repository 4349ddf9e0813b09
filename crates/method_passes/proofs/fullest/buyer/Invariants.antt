-- The loop's invariant: the best of the first i entries, and the scan of those left, find the largest of all. So in each scan.
use Rattle.method_laws.specs.Columns.{by_key}
use Rattle.method_passes.proofs.Scan.{Scan}
use Rattle.method_passes.proofs.fullest.buyer.Given as goal

abbrev pub invariant-loop-i : goal.invariant-loop-i
invariant-loop-i l = Scan (by_key l.keys) l.lots l.best l.i
