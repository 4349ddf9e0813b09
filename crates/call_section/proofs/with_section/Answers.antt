use Rattle.numbers.proofs.Words.{◌<◌, arith}
use Rattle.rules.specs.Calls.{with_section}
use Rattle.book_laws.proofs.Accepted.{section}
use Rattle.call_section.proofs.with_section.Goals as goal
use Rattle.call_section.proofs.with_section.Goals.{Start}

room : (c : Start) → c.args.b.held < 128
room c = (section _ _ _ c.requires).room

pub offset_bounds-next-at : goal.offset_bounds-next-at
offset_bounds-next-at c = omega (arith, room c.before)

pub bounds-next-at : goal.bounds-next-at
bounds-next-at c = room c.before

pub overflow_add-next : goal.overflow_add-next
overflow_add-next c = omega (arith, room c.before)

pub returns : goal.returns
unfolding with_section
returns c = rw c.new_section-s.ensures
