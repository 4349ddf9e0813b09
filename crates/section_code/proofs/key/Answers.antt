use Rattle.numbers.proofs.Words.{rules, sym, ◌∙◌}
use Rattle.section_code.proofs.Laws.{seven}
use Rattle.section_code.proofs.key.Goals as goal

pub returns : goal.returns
returns c = record { value = c.joined.ensures.value ∙ sym (seven c.args.code (search rules)); upper_bound = c.joined.ensures.upper_bound }
