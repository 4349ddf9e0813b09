use Rattle.numbers.proofs.Words.{arith}
use Rattle.failures.proofs.Laws.Printed.{refusal_short, refused_laid}
use Rattle.failures.proofs.answer.row.Goals as goal

pub refusal-requires : goal.refusal-requires
refusal-requires c = rw c.number_of.ensures (omega (arith, refusal_short c.in-Err.refusal, c.requires))

pub returns-in-Err : goal.returns-in-Err
returns-in-Err c =
    let laid = rw c.number_of.ensures at c.refusal.ensures in
    record { laid = refused_laid c.in-Err.is laid; upper_bound = omega (arith, laid.ends, refusal_short c.in-Err.refusal) }
