use Rattle.numbers.proofs.Words.{arith, ◌≡◌, ◌∙◌, ap, ℤ, pos, entry, w64, to_z, to_z_pos}
use Rattle.numbers.specs.Text.{decimal}
use Rattle.rules.specs.Units.{tonnes_of}
use Rattle.listing.specs.Columns.{code_at}
use Rattle.listing.proofs.Laws.Parts.{begun_row, room_field, then, finished}
use Rattle.listing.proofs.rows.line.Goals as goal

pub code-at-requires : goal.code-at-requires
code-at-requires c =
    let start = begun_row _ _ _ c.requires.lots_in_bounds in
    (omega (arith, c.requires.at_index.0, c.requires.codes_len.0), room_field (code_at c.args.codes.now _) 32 start)

pub number-at-requires : goal.number-at-requires
number-at-requires c =
    let start = begun_row _ _ _ c.requires.lots_in_bounds in
    room_field (decimal _) 32 (then start c.code-at.ensures)

pub code-at-requires-2 : goal.code-at-requires-2
code-at-requires-2 c =
    let start = begun_row _ _ _ c.requires.lots_in_bounds in
    (omega (arith, c.requires.at_index.1, c.requires.codes_len.0), room_field (code_at c.args.codes.now _) 32 (then (then start c.code-at.ensures) c.number-at.ensures))

pub number-at-requires-2 : goal.number-at-requires-2
number-at-requires-2 c =
    let start = begun_row _ _ _ c.requires.lots_in_bounds in
    room_field (decimal _) 32 (then (then (then start c.code-at.ensures) c.number-at.ensures) c.code-at-2.ensures)

pub number-requires : goal.number-requires
number-requires c =
    let start = begun_row _ _ _ c.requires.lots_in_bounds in
    let lots = entry c.args.lists.lots.now c.args.i in
    let lots_read : to_z w64 lots ≡ pos lots = to_z_pos w64 {n = lots} (omega (arith, c.requires.at_index.2)) in
    let weight : c.tonnes-weight.result ≡ tonnes_of c.args.lot (record { 0 = pos lots }) = c.tonnes-weight.ensures ∙ ap (λ (z : ℤ). tonnes_of c.args.lot (record { 0 = z })) lots_read in
    rw weight (room_field (decimal _) 10 (then (then (then (then start c.code-at.ensures) c.number-at.ensures) c.code-at-2.ensures) c.number-at-2.ensures))

pub returns : goal.returns
returns c =
    let start = begun_row _ _ _ c.requires.lots_in_bounds in
    let lots = entry c.args.lists.lots.now c.args.i in
    let lots_read : to_z w64 lots ≡ pos lots = to_z_pos w64 {n = lots} (omega (arith, c.requires.at_index.2)) in
    let weight : c.tonnes-weight.result ≡ tonnes_of c.args.lot (record { 0 = pos lots }) = c.tonnes-weight.ensures ∙ ap (λ (z : ℤ). tonnes_of c.args.lot (record { 0 = z })) lots_read in
    finished (then (then (then (then (then start c.code-at.ensures) c.number-at.ensures) c.code-at-2.ensures) c.number-at-2.ensures) (rw weight at c.number.ensures))
