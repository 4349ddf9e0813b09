use Rattle.numbers.proofs.Words.{rules}
use Rattle.method_passes.proofs.Arrays.{pairs_less}
use Rattle.method_passes.proofs.pairs.Pairs.leave.Goals as goal

pub returns : goal.returns
returns c = pairs_less c.args.self.now c.args.p c.args.left c.requires.0 c.requires.1 (search rules)
