use Rattle.rules.specs.Lent.{block_of}
use Rattle.call_block.proofs.Walk.{Walk}
use Rattle.call_block.proofs.offer.Given as goal

abbrev pub invariant-loop-i : goal.invariant-loop-i
invariant-loop-i l = Walk l.b (block_of l.block) l.initial.answers l.sections l.trades l.answers l.i
