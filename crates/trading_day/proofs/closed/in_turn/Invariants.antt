use Rattle.numbers.proofs.Words.{◌≡◌, drop}
use Rattle.trading_day.proofs.Laws.InTurn.{in_turn}
use Rattle.trading_day.proofs.closed.in_turn.Given as goal

abbrev pub invariant-loop-number : goal.invariant-loop-number
invariant-loop-number l = in_turn 0 l.closed ≡ in_turn l.last (drop l.number-index l.closed)
