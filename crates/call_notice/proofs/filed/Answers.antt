use Rattle.numbers.proofs.Words.{◌<◌, arith, w64, to_z_pos}
use Rattle.rules.specs.Calls.{after_notice}
use Rattle.book_laws.proofs.Accepted.{notice}
use Rattle.call_notice.proofs.filed.Goals as goal
use Rattle.call_notice.proofs.filed.Goals.{Start}

room : (c : Start) → c.args.b.filed < 256
room c = (notice _ _ _ _ c.requires).room

pub offset_bounds-next-at : goal.offset_bounds-next-at
offset_bounds-next-at c = omega (arith, room c)

pub bounds-next-at : goal.bounds-next-at
bounds-next-at c = room c

pub overflow_add-next : goal.overflow_add-next
overflow_add-next c = omega (arith, room c)

pub returns : goal.returns
unfolding after_notice
returns c = rw (to_z_pos w64 {n = c.args.lots} (omega arith))
