use Rattle.numbers.proofs.Words.{[], ◌∷◌}
use Rattle.numbers.specs.Text.{decimal}
use Rattle.listing.proofs.Laws.Parts.{begun_row, room_field, then, finished}
use Rattle.calls_listing.proofs.call.Goals as goal

pub number-at-requires : goal.number-at-requires
number-at-requires c =
    let start = begun_row c.args.out.now c.args.at (decimal c.args.place ∷ decimal c.args.number ∷ []) c.requires in
    room_field (decimal _) 32 start

pub number-requires : goal.number-requires
number-requires c =
    let start = begun_row c.args.out.now c.args.at (decimal c.args.place ∷ decimal c.args.number ∷ []) c.requires in
    room_field (decimal _) 10 (then start c.number-at.ensures)

pub returns : goal.returns
returns c =
    let start = begun_row c.args.out.now c.args.at (decimal c.args.place ∷ decimal c.args.number ∷ []) c.requires in
    finished (then (then start c.number-at.ensures) c.number.ensures)
