use Rattle.numbers.proofs.Words.{arith, sym, length-take-le}
use Rattle.columns.proofs.Laws.Printed.{printed_most}
use Rattle.columns.proofs.print.Goals as goal

-- what is written lies within the buffer
pub slice_bounds-out-end : goal.slice_bounds-out-end
slice_bounds-out-end g c = omega (arith, c.printed-count.ensures.ends, printed_most c.args.back c.args.file.now, c.requires, c.printed-count.auto.out)

pub slice_bounds-write_output-end : goal.slice_bounds-write_output-end
slice_bounds-write_output-end g c =
    sym (length-take-le _ _ (omega (arith, c.printed-count.ensures.ends, printed_most c.args.back c.args.file.now, c.requires, c.printed-count.auto.out)))
