use Rattle.numbers.proofs.Words.{◌<◌, arith, refl}
use Rattle.rules.specs.Calls.{marked, after_condition}
use Rattle.book_laws.proofs.Accepted.{condition}
use Rattle.call_condition.proofs.marked.Goals as goal
use Rattle.call_condition.proofs.marked.Goals.{Start}

known : (c : Start) → c.args.section < 128
known c =
    let accepted = condition _ _ c.requires in
    omega (arith, accepted.known, accepted.book.held)

pub bounds-b-at : goal.bounds-b-at
bounds-b-at c = omega (arith, known c)

pub bounds-next-at : goal.bounds-next-at
bounds-next-at c = omega (arith, known (goal.at.bounds-next-at c).Start)

pub returns : goal.returns
unfolding marked after_condition
returns c = refl
