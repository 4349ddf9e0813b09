use Rattle.numbers.proofs.Words.{arith, refl}
use Rattle.io.proofs.Counting.{prefix_len_of_le}
use Rattle.file_opening.proofs.Laws.{refuses}
use Rattle.file_present.proofs.Walking.{present_good}
use Rattle.failures.proofs.Laws.Printed.{refusal_short}
use Rattle.failures.proofs.Laws.Resolving.{file_prints, refusal_prints}
use Rattle.failures.proofs.printed.Goals as goal

pub refusal-requires : goal.refusal-requires
refusal-requires g c = rw c.number_of.ensures (omega (arith, refusal_short c.in-Err.refusal, c.requires.2))

pub returns-in-Err : goal.returns-in-Err
returns-in-Err g c =
    let laid = rw c.number_of.ensures at c.refusal.ensures in
    refusal_prints c.args.file.now c.in-Err.ensures (refuses c.in-Err.refusal) c.requires.0
    (prefix_len_of_le _ _ (omega (arith, laid.ends, refusal_short c.in-Err.refusal, c.requires.2, c.refusal.auto.out))) laid

pub answered-requires : goal.answered-requires
answered-requires g c = (present_good c.args.file.now c.in-Ok.ensures refl, c.requires.0, c.requires.1, c.requires.2)

pub returns-in-Ok : goal.returns-in-Ok
returns-in-Ok g c = file_prints c.args.file.now c.in-Ok.ensures refl c.answered.ensures
