use Rattle.book_laws.proofs.Good.{facts}
use Rattle.call_section.proofs.check.Goals as goal

pub code_held-requires : goal.code_held-requires
code_held-requires c = (facts _ c.requires).held
