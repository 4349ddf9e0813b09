use Rattle.numbers.proofs.Words.{arith}
use Rattle.method_register.proofs.Laws.{ran_none, ran_next, ran_fits}
use Rattle.method_register.proofs.passes.inside_passes.Goals as goal

pub loop-c-init : goal.loop-c-init
loop-c-init c = ran_none c.requires.read.1 c.requires.read.2

pub inside_pass-formed-requires-clause-c_bound : goal.inside_pass-formed-requires-clause-c_bound
inside_pass-formed-requires-clause-c_bound c = ran_fits c.loop-c.invariant (omega arith) c.requires.drawn_len_bound

pub loop-c-preserved : goal.loop-c-preserved
loop-c-preserved c = ran_next c.loop-c.invariant c.requires.read.0 (omega arith) c.inside_pass-formed.ensures.register_value c.inside_pass-formed.ensures.pairs_value
