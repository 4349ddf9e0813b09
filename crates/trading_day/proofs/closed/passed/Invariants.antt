use Rattle.numbers.proofs.Words.{◌≤◌, ◌≡◌, length, drop}
use Rattle.trading_day.specs.Walk.{not_below}
use Rattle.trading_day.proofs.closed.passed.Given as goal

abbrev pub invariant-loop-at : goal.invariant-loop-at
invariant-loop-at l = (l.at ≤ length l.closed) × (not_below l.number (drop l.at l.closed) ≡ not_below l.number (drop l.from l.closed))
