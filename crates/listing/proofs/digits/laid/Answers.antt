use Rattle.numbers.proofs.Words.{rules, arith}
use Rattle.listing.proofs.Laws.Digits.{digits_start, digits_next, digits_end}
use Rattle.listing.proofs.digits.laid.Goals as goal

pub loop-left-init : goal.loop-left-init
loop-left-init c = digits_start _ _ c.requires (search rules)

pub loop-left-preserved : goal.loop-left-preserved
loop-left-preserved c = digits_next c.loop-left.invariant _ c.digit.ensures c.loop-left-test.true

pub returns : goal.returns
returns c = (c.loop-left.invariant.place, digits_end c.loop-left.invariant _ c.digit-2.ensures (omega arith))
