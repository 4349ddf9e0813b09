-- The calls' `ensures`, one after the other.
use Rattle.numbers.proofs.Words.{ℕ, arith, ap, ◌∙◌, List, length, entry, less}
use Rattle.numbers.proofs.Front.{noughts_front, Front, front_of}
use Rattle.numbers.proofs.Ranges.{less_at}
use Rattle.method_steps.proofs.Laws.{noughts}
use Rattle.method_steps.proofs.remaining.close_across.Goals as goal

pub give_across-requires : goal.give_across-requires
give_across-requires c = (c.requires.0, noughts_front _ 128 c.requires.0.few, c.requires.1)

pub returns-clause-small : goal.returns-clause-small
returns-clause-small c = λ i.
    let kept = c.args.kept.now in
    let more = c.give_across.new.given in
    let front : Front (length kept) noughts more = front_of (length kept) noughts more c.requires.0.few c.give_across.auto.given in
    omega (arith, ap (λ (xs : List ℕ). entry xs i) (c.less.ensures ∙ ap (less kept) front.is), less_at kept more i, c.requires.1 i)
