use Rattle.numbers.proofs.Words.{arith}
use Rattle.failures.proofs.Laws.Places.{none_yet, found, passed, nowhere}
use Rattle.failures.proofs.words.place_of.Goals as goal

pub loop-i-init : goal.loop-i-init
loop-i-init c = none_yet _ _

pub returns-then-own-key : goal.returns-then-own-key
returns-then-own-key c = found _ _ c.loop-i.i c.loop-i.invariant (omega arith) c.if-own-key.true

pub loop-i-preserved : goal.loop-i-preserved
loop-i-preserved c = passed _ _ c.loop-i.i c.loop-i.invariant (omega arith) c.if-own-key.false

pub returns : goal.returns
returns c = nowhere _ _ c.loop-i.i c.loop-i.invariant (omega arith)
