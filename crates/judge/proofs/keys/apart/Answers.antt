use Rattle.numbers.proofs.Words.{arith, sym, ◌∙◌, eqb}
use Rattle.numbers.proofs.Lists.{has, apart_next, apart_stop, apart_end}
use Rattle.judge.proofs.Laws.{later_some}
use Rattle.judge.proofs.keys.apart.Goals as goal

pub returns-then-contains : goal.returns-then-contains
returns-then-contains c =
    sym (c.loop-i.invariant ∙ apart_stop (has (c.args.numbers.now) c.loop-i.i 0 (omega arith)) eqb (sym (c.contains.ensures.value ∙ later_some _ c.loop-i.i c.args.numbers.now) ∙ c.if-contains.true))

pub loop-i-preserved : goal.loop-i-preserved
loop-i-preserved c =
    c.loop-i.invariant ∙ apart_next (has (c.args.numbers.now) c.loop-i.i 0 (omega arith)) eqb (sym (c.contains.ensures.value ∙ later_some _ c.loop-i.i c.args.numbers.now) ∙ c.if-contains.false)

pub returns : goal.returns
returns c = sym (c.loop-i.invariant ∙ apart_end (c.args.numbers.now) c.loop-i.i (omega arith) eqb)
