use Rattle.numbers.proofs.Words.{arith, ◌≡◌, ap, length}
use Rattle.rules.specs.Answers.{numbered}
use Rattle.lastday.specs.Rows.{answer_row, row_answer}
use Rattle.lastday.proofs.Laws.Answers.{long_row, no_numbers, few_numbers, answer_read, row_most_lem}
use Rattle.lastday.proofs.rows.answer_to.Goals as goal
use Rattle.lastday.proofs.rows.answer_to.Goals.{After-last_day-answer}

-- what is answered is the text of the row
text_is : (c : After-last_day-answer) → row_answer c.args.row.now ≡ answer_row (numbered c.last_day-answer.result)
text_is c = answer_read c.in-Some.ensures c.if-row-gt-ROW_BYTES.false c.if-count-lt2.false c.last_day-answer.ensures.value

pub returns-then-row-gt-ROW_BYTES : goal.returns-then-row-gt-ROW_BYTES
returns-then-row-gt-ROW_BYTES c = rw (long_row c.args.row.now c.if-row-gt-ROW_BYTES.true) c.bad.ensures

pub returns-then-count-lt2 : goal.returns-then-count-lt2
returns-then-count-lt2 c = rw (few_numbers c.in-Some.ensures c.if-count-lt2.true) c.bad-then-count-lt2.ensures

pub answered-requires : goal.answered-requires
answered-requires c = omega (arith, c.requires, ap length (text_is (goal.at.answered-requires c).After-last_day-answer), row_most_lem c.args.row.now)

pub returns : goal.returns
returns c = rw (text_is (goal.at.returns c).After-last_day-answer) c.answered.ensures

pub returns-in_default : goal.returns-in_default
returns-in_default c = rw (no_numbers c.args.row.now (rw c.in_default.is at c.read.ensures)) c.bad-in_default.ensures
