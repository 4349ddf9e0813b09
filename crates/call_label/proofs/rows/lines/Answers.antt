use Rattle.numbers.proofs.Words.{◌≡◌, le_antisymm, refl, sym, ap, ◌∙◌}
use Rattle.rules.specs.Label.{rows_of}
use Rattle.call_label.specs.Lengths.{lines_length}
use Rattle.shared_lists.specs.Lists.{lists_read}
use Rattle.call_label.proofs.Laws.Label.{row_facts}
use Rattle.call_label.proofs.Laws.Rows.{added_none, added_next, judged_none, judged_next, judged_stop, judged_end}
use Rattle.call_label.proofs.rows.lines.Goals as goal

pub loop-i-init : goal.loop-i-init
loop-i-init c = (judged_none _ _, added_none _ _)

pub line-more-requires : goal.line-more-requires
line-more-requires c = (c.requires.0, (row_facts _ _ (sym c.row_fit.ensures ∙ c.if-not-row_fit.false)).most)

pub loop-i-preserved : goal.loop-i-preserved
loop-i-preserved c = (
  judged_next c.loop-i.invariant.0 c.loop-i-test.true (sym c.row_fit.ensures ∙ c.if-not-row_fit.false),
  added_next c.loop-i.invariant.1 c.line-more.ensures.0 c.line-more.ensures.1,
)

pub returns-then-not-row_fit-clause-value : goal.returns-then-not-row_fit-clause-value
returns-then-not-row_fit-clause-value c =
    let none = judged_stop c.loop-i.invariant.0 c.loop-i-test.true (sym c.row_fit.ensures ∙ c.if-not-row_fit.true) in
    rw none refl

pub returns-clause-value : goal.returns-clause-value
returns-clause-value c =
    let ls = (lists_read c.args.lists).lists in
    let all : c.loop-i.i ≡ rows_of ls = le_antisymm c.loop-i.invariant.0.place c.loop-i-test.false in
    let fit = judged_end c.loop-i.invariant.0 c.loop-i-test.false in
    let counted : c.loop-i.bytes ≡ lines_length c.args.lot ls (rows_of ls) = c.loop-i.invariant.1.all ∙ ap (lines_length c.args.lot ls) all in
    rw (fit, counted) refl
