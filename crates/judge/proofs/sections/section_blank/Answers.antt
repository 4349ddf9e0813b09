use Rattle.numbers.proofs.Words.{◌∙◌}
use Rattle.judge.proofs.Blank.{section_is}
use Rattle.judge.proofs.sections.section_blank.Goals as goal

pub returns : goal.returns
returns c = (rw c.blank.ensures at c.eq.ensures) ∙ section_is c.args.s
