use Rattle.numbers.proofs.Lists.{has}
use Rattle.lastday.proofs.Laws.Feeding.{feeding_start, feeding_room, feeding_next}
use Rattle.lastday.proofs.feed.piece.Goals as goal

pub loop-b-init : goal.loop-b-init
loop-b-init c = feeding_start _ _ _ _ c.requires.0 c.requires.1 c.requires.2

pub byte-fed-requires : goal.byte-fed-requires
byte-fed-requires c = (c.loop-b.invariant.fed.few, c.loop-b.invariant.fed.long, feeding_room c.loop-b.invariant (has c.args.bytes.now c.loop-b.b-index 0 c.loop-b-test.true))

pub loop-b-preserved : goal.loop-b-preserved
loop-b-preserved c = feeding_next c.loop-b.invariant (has c.args.bytes.now c.loop-b.b-index 0 c.loop-b-test.true) c.byte-fed.ensures
