use Rattle.numbers.proofs.Words.{arith}
use Rattle.listing.proofs.Laws.Rows.{rows_start, rows_room, rows_next, rows_end}
use Rattle.tenths.proofs.Laws.{row_numbers, number_length}
use Rattle.tenths.proofs.rows.year_row.Goals as goal

pub loop-i-init : goal.loop-i-init
loop-i-init c = rows_start _ 12 _ _ (rw (← row_numbers c.args.year) c.requires)

pub number-next-requires : goal.number-next-requires
number-next-requires c =
    let inside = c.loop-i-test.true in
    (inside, omega (arith, rows_room c.loop-i.invariant inside, number_length c.args.year c.loop-i.i))

pub loop-i-preserved : goal.loop-i-preserved
loop-i-preserved c = rows_next c.loop-i.invariant c.loop-i-test.true c.number-next.ensures

pub returns : goal.returns
returns c = rw (row_numbers c.args.year) (rows_end c.loop-i.invariant c.loop-i-test.false)
