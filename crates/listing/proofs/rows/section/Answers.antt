use Rattle.numbers.proofs.Words.{◌≡◌, [], ◌∷◌, entry, entry_ℤ, w64, to_z, of_z}
use Rattle.numbers.specs.Text.{signed_decimal}
use Rattle.numbers.proofs.Whole.{read_back}
use Rattle.shared_lists.specs.Lists.{lists_read}
use Rattle.listing.specs.Columns.{field, lots_fields}
use Rattle.listing.proofs.Laws.Parts.{begun, section_parts, room_next, room_field, then, finished}
use Rattle.listing.proofs.rows.section.Goals as goal

pub lots-at-requires-clause-end_in_bounds : goal.lots-at-requires-clause-end_in_bounds
lots-at-requires-clause-end_in_bounds c =
    let a = c.args in
    let parts = lots_fields a.codes.now a.i (entry a.lists.delivered.now a.i) (entry a.lists.terminated.now a.i) (entry a.lists.lapsed.now a.i) 32 ∷ field (signed_decimal (entry_ℤ a.lists.sums.now a.i)) 10 ∷ [] in
    let start = begun a.out.now a.at _ parts (section_parts a.codes.now a.i (lists_read a.lists)) c.requires.sum_in_bounds in
    room_next start

pub whole-requires : goal.whole-requires
whole-requires c =
    let a = c.args in
    let parts = lots_fields a.codes.now a.i (entry a.lists.delivered.now a.i) (entry a.lists.terminated.now a.i) (entry a.lists.lapsed.now a.i) 32 ∷ field (signed_decimal (entry_ℤ a.lists.sums.now a.i)) 10 ∷ [] in
    let start = begun a.out.now a.at _ parts (section_parts a.codes.now a.i (lists_read a.lists)) c.requires.sum_in_bounds in
    let sum = entry_ℤ a.lists.sums.now a.i in
    let back : to_z w64 (of_z w64 sum) ≡ sum = read_back w64 sum (search) in
    rw back (room_field (signed_decimal _) 10 (then start c.lots-at.ensures))

pub returns : goal.returns
returns c =
    let a = c.args in
    let parts = lots_fields a.codes.now a.i (entry a.lists.delivered.now a.i) (entry a.lists.terminated.now a.i) (entry a.lists.lapsed.now a.i) 32 ∷ field (signed_decimal (entry_ℤ a.lists.sums.now a.i)) 10 ∷ [] in
    let start = begun a.out.now a.at _ parts (section_parts a.codes.now a.i (lists_read a.lists)) c.requires.sum_in_bounds in
    let sum = entry_ℤ a.lists.sums.now a.i in
    let back : to_z w64 (of_z w64 sum) ≡ sum = read_back w64 sum (search) in
    finished (then (then start c.lots-at.ensures) (rw back at c.whole.ensures))
