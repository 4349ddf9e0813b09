use Rattle.listing.proofs.Laws.Parts.{begun, lots_parts, then, finished}
use Rattle.listing.proofs.rows.lots.Goals as goal

pub returns : goal.returns
returns c =
    let a = c.args in
    let start = begun a.out.now a.at _ _ (lots_parts a.codes.now a.i a.delivered a.terminated a.lapsed a.end) c.requires.end_in_bounds in
    finished (then (then (then (then start c.code-at.ensures) c.number-at.ensures) c.number-at-2.ensures) c.number.ensures)
