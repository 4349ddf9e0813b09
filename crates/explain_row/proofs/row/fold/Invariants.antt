use Rattle.numbers.proofs.Words.{◌≤◌}
use Rattle.explain_row.specs.Folded.{Folded}
use Rattle.explain_row.proofs.row.fold.Given as goal

abbrev pub invariant-loop-i : goal.invariant-loop-i
invariant-loop-i l = Folded l.initial.text l.text × (l.row.start ≤ l.i) × (l.row.blank ≤ l.i)
