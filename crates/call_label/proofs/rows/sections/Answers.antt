use Rattle.numbers.proofs.Words.{entry_ℤ, w64}
use Rattle.numbers.proofs.Whole.{read_back}
use Rattle.call_label.proofs.Laws.Rows.{added_none, added_next}
use Rattle.call_label.proofs.rows.sections.Goals as goal

pub loop-i-init : goal.loop-i-init
loop-i-init c = added_none _ _

pub loop-i-preserved : goal.loop-i-preserved
loop-i-preserved c =
    let back = read_back w64 (entry_ℤ c.args.lists.sums.now c.loop-i.i) (search) in
    added_next c.loop-i.invariant (rw back at c.section-more.ensures.0) c.section-more.ensures.1
