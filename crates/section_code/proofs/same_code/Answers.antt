use Rattle.numbers.proofs.Words.{◌∙◌}
use Rattle.section_code.proofs.Laws.{pairwise_same}
use Rattle.section_code.proofs.same_code.Goals as goal

pub returns : goal.returns
returns c = c.eq.ensures ∙ pairwise_same c.args.a c.args.b
