use Rattle.numbers.proofs.Words.{[], ◌∷◌}
use Rattle.numbers.specs.Text.{decimal}
use Rattle.listing.proofs.Laws.Parts.{begun_row, room_field, then, finished}
use Rattle.listing.proofs.text.row.Goals as goal

pub word-next-requires : goal.word-next-requires
word-next-requires c =
    let start = begun_row c.args.out.now c.args.at (c.args.name.now ∷ decimal c.args.n ∷ []) c.requires in
    room_field c.args.name.now 32 start

pub number-requires : goal.number-requires
number-requires c =
    let start = begun_row c.args.out.now c.args.at (c.args.name.now ∷ decimal c.args.n ∷ []) c.requires in
    room_field (decimal _) 10 (then start c.word-next.ensures)

pub returns : goal.returns
returns c =
    let start = begun_row c.args.out.now c.args.at (c.args.name.now ∷ decimal c.args.n ∷ []) c.requires in
    finished (then (then start c.word-next.ensures) c.number.ensures)
