use Rattle.numbers.proofs.Words.{◌∙◌}
use Rattle.judge.proofs.Blank.{notice_is}
use Rattle.judge.proofs.notices.notice_blank.Goals as goal

pub returns : goal.returns
returns c = (rw c.blank.ensures at c.eq.ensures) ∙ notice_is c.args.n
