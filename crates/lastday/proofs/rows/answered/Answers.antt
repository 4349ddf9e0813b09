use Rattle.numbers.proofs.Words.{ap}
use Rattle.rules.specs.Answers.{numbered}
use Rattle.lastday.proofs.Laws.Answers.{on_room, on_laid, refused_room, refused_laid}
use Rattle.lastday.proofs.rows.answered.Goals as goal

pub number-requires : goal.number-requires
number-requires c = on_room (ap numbered c.in-Ok.is) c.number_of-number.ensures c.args.at c.requires

pub refusal-requires : goal.refusal-requires
refusal-requires c = rw c.number_of-number-in-Err.ensures (refused_room (ap numbered c.in-Err.is) c.args.at c.requires)

pub returns-in-Ok : goal.returns-in-Ok
returns-in-Ok c = on_laid (ap numbered c.in-Ok.is) c.number_of-number.ensures c.number.ensures

pub returns-in-Err : goal.returns-in-Err
returns-in-Err c = refused_laid (ap numbered c.in-Err.is) (rw c.number_of-number-in-Err.ensures at c.refusal.ensures)
