-- The loop's invariant: what is drawn of the first k notices is in its places, and `before` holds the lots of each section's notices among them.
use Rattle.numbers.proofs.Words.{◌≡◌}
use Rattle.numbers.proofs.Filled.{Filled}
use Rattle.method_laws.proofs.Columns.{noticed_first}
use Rattle.method_holding.proofs.Laws.{piece}
use Rattle.method_holding.proofs.drawing.drawn.Given as goal

abbrev pub invariant-loop-k : goal.invariant-loop-k
invariant-loop-k l = Filled (piece l.positions l.sellers l.lots l.first) l.initial.out l.out l.k × (l.before ≡ noticed_first 128 l.sellers l.lots l.k)
