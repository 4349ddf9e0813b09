use Rattle.numbers.proofs.Words.{rules}
use Rattle.method_passes.proofs.Arrays.{pairs_more}
use Rattle.method_passes.proofs.pairs.Pairs.push.Goals as goal

pub returns : goal.returns
returns c = pairs_more c.args.self.now c.args.buyer c.args.elevator c.args.lots c.requires (search rules) (search rules) (search rules)
