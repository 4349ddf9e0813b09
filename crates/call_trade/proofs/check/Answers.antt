use Rattle.book_laws.proofs.Good.{facts}
use Rattle.call_trade.proofs.Laws.{place_position, offered_at}
use Rattle.call_trade.proofs.check.Goals as goal

pub offered-requires : goal.offered-requires
offered-requires c =
    let start = c in
    ((facts _ start.requires).r.least, place_position start.args.b start.requires _, place_position start.args.b start.requires _)

pub returns : goal.returns
returns c =
    let start = c in
    offered_at start.args.b start.requires _ _ _ _ c.place-bought.ensures c.place-sold.ensures c.offered.ensures
