use Rattle.numbers.proofs.Words.{◌≡◌, ◌++◌, map, take, drop}
use Rattle.numbers.proofs.Filled.{Filled}
use Rattle.rules.specs.Book.{value_at}
use Rattle.rules.specs.Calls.{settled}
use Rattle.call_session.specs.Paid.{paid_to}
use Rattle.call_session.proofs.after_session.Given as goal

abbrev pub invariant-loop-i : goal.invariant-loop-i
invariant-loop-i l = (l.sections ≡ map (settled (value_at l.b l.price)) (take l.i l.b.sections) ++ drop l.i l.b.sections) × Filled (paid_to l.added l.b l.price l.initial.list) l.initial.list l.list l.i
