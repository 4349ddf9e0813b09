use Rattle.shared_lists.specs.Lists.{lists_read}
use Rattle.listing.proofs.Laws.Parts.{begun, room_next, then, finished}
use Rattle.calls_listing.proofs.Laws.Delivery.{parts, delivery_parts}
use Rattle.calls_listing.proofs.delivered.Goals as goal

pub counts-at-requires : goal.counts-at-requires
counts-at-requires c =
    let a = c.args in
    let same = delivery_parts a.expired (lists_read a.lists).lists c.laid.new.codes c.laid.ensures c.requires.held_bound.0 c.requires.by_index in
    let begin = begun a.out.now a.at _ (parts a.expired (lists_read a.lists).lists c.laid.new.codes) same c.requires.lapsed_in_bounds in
    room_next begin

pub head-at-requires : goal.head-at-requires
head-at-requires c =
    let a = c.args in
    let same = delivery_parts a.expired (lists_read a.lists).lists c.laid.new.codes c.laid.ensures c.requires.held_bound.0 c.requires.by_index in
    let begin = begun a.out.now a.at _ (parts a.expired (lists_read a.lists).lists c.laid.new.codes) same c.requires.lapsed_in_bounds in
    room_next (then begin c.counts-at.ensures)

pub lines-at-requires-clause-lines_in_bounds_2 : goal.lines-at-requires-clause-lines_in_bounds_2
lines-at-requires-clause-lines_in_bounds_2 c =
    let a = c.args in
    let same = delivery_parts a.expired (lists_read a.lists).lists c.laid.new.codes c.laid.ensures c.requires.held_bound.0 c.requires.by_index in
    let begin = begun a.out.now a.at _ (parts a.expired (lists_read a.lists).lists c.laid.new.codes) same c.requires.lapsed_in_bounds in
    room_next (then (then begin c.counts-at.ensures) c.head-at.ensures)

pub sections-requires-clause-held_in_bounds : goal.sections-requires-clause-held_in_bounds
sections-requires-clause-held_in_bounds c =
    let a = c.args in
    let same = delivery_parts a.expired (lists_read a.lists).lists c.laid.new.codes c.laid.ensures c.requires.held_bound.0 c.requires.by_index in
    let begin = begun a.out.now a.at _ (parts a.expired (lists_read a.lists).lists c.laid.new.codes) same c.requires.lapsed_in_bounds in
    room_next (then (then (then begin c.counts-at.ensures) c.head-at.ensures) c.lines-at.ensures)

pub returns : goal.returns
returns c =
    let a = c.args in
    let same = delivery_parts a.expired (lists_read a.lists).lists c.laid.new.codes c.laid.ensures c.requires.held_bound.0 c.requires.by_index in
    let begin = begun a.out.now a.at _ (parts a.expired (lists_read a.lists).lists c.laid.new.codes) same c.requires.lapsed_in_bounds in
    finished (then (then (then (then begin c.counts-at.ensures) c.head-at.ensures) c.lines-at.ensures) c.sections.ensures)
