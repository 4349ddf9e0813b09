use Rattle.numbers.proofs.Words.{[], ◌∷◌}
use Rattle.numbers.specs.Text.{bytes, decimal}
use Rattle.listing.proofs.Laws.Parts.{begun_row, room_field, then, finished}
use Rattle.calls_listing.proofs.counts.Goals as goal

pub word-at-requires : goal.word-at-requires
unfolding bytes
word-at-requires c =
    let start = begun_row c.args.out.now c.args.at (bytes "expiry" ∷ decimal c.args.pairs ∷ decimal c.args.lines ∷ decimal c.args.kept ∷ []) c.requires in
    room_field (bytes "expiry") 32 start

pub number-at-requires : goal.number-at-requires
unfolding bytes
number-at-requires c =
    let start = begun_row c.args.out.now c.args.at (bytes "expiry" ∷ decimal c.args.pairs ∷ decimal c.args.lines ∷ decimal c.args.kept ∷ []) c.requires in
    room_field (decimal _) 32 (then start c.word-at.ensures)

pub number-at-requires-2 : goal.number-at-requires-2
unfolding bytes
number-at-requires-2 c =
    let start = begun_row c.args.out.now c.args.at (bytes "expiry" ∷ decimal c.args.pairs ∷ decimal c.args.lines ∷ decimal c.args.kept ∷ []) c.requires in
    room_field (decimal _) 32 (then (then start c.word-at.ensures) c.number-at.ensures)

pub number-requires : goal.number-requires
unfolding bytes
number-requires c =
    let start = begun_row c.args.out.now c.args.at (bytes "expiry" ∷ decimal c.args.pairs ∷ decimal c.args.lines ∷ decimal c.args.kept ∷ []) c.requires in
    room_field (decimal _) 10 (then (then (then start c.word-at.ensures) c.number-at.ensures) c.number-at-2.ensures)

pub returns : goal.returns
unfolding bytes
returns c =
    let start = begun_row c.args.out.now c.args.at (bytes "expiry" ∷ decimal c.args.pairs ∷ decimal c.args.lines ∷ decimal c.args.kept ∷ []) c.requires in
    finished (then (then (then (then start c.word-at.ensures) c.number-at.ensures) c.number-at-2.ensures) c.number.ensures)
