use Rattle.lastday.proofs.Laws.Feeding.{byte_put, byte_left}
use Rattle.lastday.proofs.feed.byte.Goals as goal

pub returns-then-held-lt-KEPT_BYTES : goal.returns-then-held-lt-KEPT_BYTES
returns-then-held-lt-KEPT_BYTES c =
    let start = c in
    byte_put (start.args.out.now) (start.args.kept.now) start.args.at start.args.held start.args.b start.requires.1 start.requires.0 c.if-b-eq-LINE_END.false c.if-held-lt-KEPT_BYTES.true

pub returns : goal.returns
returns c =
    let start = c in
    byte_left (start.args.out.now) (start.args.kept.now) start.args.at start.args.held start.args.b start.requires.1 start.requires.0 c.if-b-eq-LINE_END.false c.if-held-lt-KEPT_BYTES.false
