use Rattle.call_label.specs.Lengths.{section_at_length}
use Rattle.shared_lists.specs.Lists.{lists_read}
use Rattle.call_label.proofs.Laws.Rows.{Added}
use Rattle.call_label.proofs.rows.sections.Given as goal

abbrev pub invariant-loop-i : goal.invariant-loop-i
invariant-loop-i l = Added (section_at_length (lists_read l.lists)) 93 l.bytes l.i
