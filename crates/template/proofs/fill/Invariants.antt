use Rattle.template.proofs.Filling.{Filling}
use Rattle.template.proofs.fill.Given as goal

abbrev pub invariant-loop-c : goal.invariant-loop-c
invariant-loop-c l = Filling l.template l.numbers l.codes l.initial.out l.at l.out l.next l.used l.c-index
