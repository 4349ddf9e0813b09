use Rattle.numbers.proofs.Words.{append-nil, [], ◌∷◌}
use Rattle.numbers.specs.Text.{bytes}
use Rattle.rules.specs.CallsListing.{margins_row}
use Rattle.listing.specs.Columns.{field}
use Rattle.listing.proofs.Laws.Parts.{begun, room_next, room_field, then, finished}
use Rattle.calls_listing.specs.Texts.{wholes}
use Rattle.calls_listing.proofs.Laws.Margins.{wholes_row}
use Rattle.calls_listing.proofs.margins.Goals as goal

pub word-at-requires : goal.word-at-requires
unfolding bytes
word-at-requires c =
    let parts = field (bytes "margins") c.end_of-end.result ∷ wholes c.args.margins.now ∷ [] in
    let start = begun c.args.out.now c.args.at (margins_row c.args.margins.now) parts (rw (c.end_of-end.ensures, append-nil) (wholes_row _ c.args.margins.now)) c.requires in
    room_field (bytes "margins") c.end_of-end.result start

pub wholes-requires : goal.wholes-requires
unfolding bytes
wholes-requires c =
    let parts = field (bytes "margins") c.end_of-end.result ∷ wholes c.args.margins.now ∷ [] in
    let start = begun c.args.out.now c.args.at (margins_row c.args.margins.now) parts (rw (c.end_of-end.ensures, append-nil) (wholes_row _ c.args.margins.now)) c.requires in
    room_next (then start c.word-at.ensures)

pub returns : goal.returns
unfolding bytes
returns c =
    let parts = field (bytes "margins") c.end_of-end.result ∷ wholes c.args.margins.now ∷ [] in
    let start = begun c.args.out.now c.args.at (margins_row c.args.margins.now) parts (rw (c.end_of-end.ensures, append-nil) (wholes_row _ c.args.margins.now)) c.requires in
    finished (then (then start c.word-at.ensures) c.wholes.ensures)
