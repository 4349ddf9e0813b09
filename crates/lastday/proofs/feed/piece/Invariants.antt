use Rattle.numbers.proofs.Words.{take}
use Rattle.lastday.proofs.Laws.Feeding.{Feeding}
use Rattle.lastday.proofs.feed.piece.Given as goal

abbrev pub invariant-loop-b : goal.invariant-loop-b
invariant-loop-b l = Feeding l.initial.out (take l.held l.initial.kept) l.bytes l.out l.kept l.fed.held l.fed.written l.b-index
