use Rattle.numbers.proofs.Words.{sym, ◌∙◌}
use Rattle.failures.proofs.Laws.Meaning.{number_held, number_past, number_none}
use Rattle.failures.proofs.words.number_below.Goals as goal

pub returns-in_default : goal.returns-in_default
returns-in_default c = number_none _ _ (sym c.number.ensures ∙ c.in_default.is)

pub returns-then-number-held : goal.returns-then-number-held
returns-then-number-held c = number_held _ _ (sym c.in-Some.ensures) c.if-number-held.true

pub returns : goal.returns
returns c = number_past _ _ (sym c.in-Some.ensures) c.if-number-held.false
