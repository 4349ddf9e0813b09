-- The loop's invariant: `out` holds the nets of the first i sections.
use Rattle.numbers.proofs.Words.{◌≡◌}
use Rattle.method_holding.proofs.Laws.{nets_of}
use Rattle.method_holding.proofs.nets.nets.Given as goal

abbrev pub invariant-loop-i : goal.invariant-loop-i
invariant-loop-i l = l.out ≡ nets_of l.codes l.positions l.lots l.i
