-- The loop's invariant: the first k lots are added to the entries of their sections.
use Rattle.method_columns.proofs.Adding.{Added}
use Rattle.method_columns.proofs.by_section.add.Given as goal

abbrev pub invariant-loop-k : goal.invariant-loop-k
invariant-loop-k l = Added l.numbers l.lots l.initial.sums l.sums l.k
