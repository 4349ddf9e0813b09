use Rattle.numbers.proofs.Words.{arith, ap, ◌∙◌, Bool, cond, length, entry}
use Rattle.numbers.proofs.Filled.{filled_none, filled_next, filled_end}
use Rattle.method_giving.proofs.chosen.keep.Goals as goal

pub loop-i-init : goal.loop-i-init
loop-i-init g c = λ passes told. filled_none _ c.args.out.now

pub loop-i-preserved : goal.loop-i-preserved
loop-i-preserved g c = λ passes told.
    let i = c.loop-i.i in
    filled_next (c.loop-i.invariant passes told) (omega arith) c.kept_if.result
    (c.kept_if.ensures ∙ ap (λ (t : Bool). cond t (entry c.args.lots.now i) 0) (told i c.test-passes.result c.loop-i-test.true c.test-passes.ensures))

pub returns : goal.returns
returns g c = λ passes told.
    filled_end (c.loop-i.invariant passes told) (omega arith) (length c.args.lots.now) (omega arith)
