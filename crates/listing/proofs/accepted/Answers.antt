use Rattle.numbers.proofs.Words.{zero-add}
use Rattle.shared_lists.specs.Lists.{lists_read}
use Rattle.listing.proofs.Laws.Laid.{laid_over}
use Rattle.listing.proofs.Laws.Listing.{parts, listing_parts}
use Rattle.listing.proofs.Laws.Parts.{begun, room_next, then, finished}
use Rattle.listing.proofs.accepted.Goals as goal

pub head-at-requires : goal.head-at-requires
head-at-requires c =
    let a = c.args in
    let begin = begun a.out.now 0 _ (parts a.b a.kept (lists_read a.lists) c.laid.new.codes) (listing_parts a.b a.kept (lists_read a.lists) c.laid.new.codes c.laid.ensures c.requires.held_bound.0 c.requires.by_index) (rw zero-add c.requires.sums_in_bounds) in
    room_next begin

pub lines-at-requires-clause-lines_in_bounds_2 : goal.lines-at-requires-clause-lines_in_bounds_2
lines-at-requires-clause-lines_in_bounds_2 c =
    let a = c.args in
    let begin = begun a.out.now 0 _ (parts a.b a.kept (lists_read a.lists) c.laid.new.codes) (listing_parts a.b a.kept (lists_read a.lists) c.laid.new.codes c.laid.ensures c.requires.held_bound.0 c.requires.by_index) (rw zero-add c.requires.sums_in_bounds) in
    room_next (then begin c.head-at.ensures)

pub sections-requires-clause-held_in_bounds : goal.sections-requires-clause-held_in_bounds
sections-requires-clause-held_in_bounds c =
    let a = c.args in
    let begin = begun a.out.now 0 _ (parts a.b a.kept (lists_read a.lists) c.laid.new.codes) (listing_parts a.b a.kept (lists_read a.lists) c.laid.new.codes c.laid.ensures c.requires.held_bound.0 c.requires.by_index) (rw zero-add c.requires.sums_in_bounds) in
    room_next (then (then begin c.head-at.ensures) c.lines-at.ensures)

pub returns : goal.returns
returns c =
    let a = c.args in
    let begin = begun a.out.now 0 _ (parts a.b a.kept (lists_read a.lists) c.laid.new.codes) (listing_parts a.b a.kept (lists_read a.lists) c.laid.new.codes c.laid.ensures c.requires.held_bound.0 c.requires.by_index) (rw zero-add c.requires.sums_in_bounds) in
    let over = laid_over _ (finished (then (then (then begin c.head-at.ensures) c.lines-at.ensures) c.sections.ensures)) in
    record { value = over.0; out_after = over.1 }
