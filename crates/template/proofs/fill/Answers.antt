use Rattle.numbers.proofs.Words.{refl}
use Rattle.template.proofs.Filling.{filling_start, filling_room, filling_next, filling_end}
use Rattle.template.proofs.fill.Goals as goal

pub loop-c-init : goal.loop-c-init
loop-c-init c = filling_start _ _ _ _ _ c.requires

pub piece-next-requires : goal.piece-next-requires
piece-next-requires c = filling_room c.loop-c.invariant c.loop-c-test.true refl c.nth-n.ensures

pub loop-c-preserved : goal.loop-c-preserved
loop-c-preserved c = filling_next c.loop-c.invariant c.loop-c-test.true refl c.nth-n.ensures c.piece-next.ensures c.used_after-used.ensures

pub returns : goal.returns
returns c = filling_end c.loop-c.invariant c.loop-c-test.false
