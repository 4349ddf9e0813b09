use Rattle.numbers.proofs.Words.{◌≡◌, eqb, drop, apart}
use Rattle.judge.proofs.keys.apart.Given as goal

abbrev pub invariant-loop-i : goal.invariant-loop-i
invariant-loop-i l = apart eqb l.numbers ≡ apart eqb (drop l.i l.numbers)
