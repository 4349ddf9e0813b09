use Rattle.numbers.proofs.Keys.{Walked}
use Rattle.rules.specs.Book.{filed_notices, notice_good}
use Rattle.judge.proofs.Laws.{notice_key}
use Rattle.judge.proofs.notices.notices_good.Given as goal

abbrev pub invariant-loop-i : goal.invariant-loop-i
invariant-loop-i l = Walked (notice_good l.b.held) notice_key (filed_notices l.b) l.initial.places l.places l.i
