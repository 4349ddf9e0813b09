use Rattle.listing.proofs.Laws.Laid.{laid_none}
use Rattle.lastday.proofs.Laws.Feeding.{no_text}
use Rattle.lastday.proofs.feed.end.Goals as goal

pub returns-then-kept-eq0 : goal.returns-then-kept-eq0
returns-then-kept-eq0 c =
    let start = c in
    rw (no_text (start.args.kept.now) c.if-kept-eq0.true) (laid_none (start.args.out.now) 0)
