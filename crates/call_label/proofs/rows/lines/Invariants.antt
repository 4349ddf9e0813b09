use Rattle.numbers.proofs.Words.{ℕ, entry}
use Rattle.rules.specs.Expiry.Call.{line_of}
use Rattle.rules.specs.Label.{row_fit, rows_of}
use Rattle.call_label.specs.Lengths.{line_length}
use Rattle.shared_lists.specs.Lists.{lists_read}
use Rattle.call_label.proofs.Laws.Rows.{Added, Judged}
use Rattle.call_label.proofs.rows.lines.Given as goal

abbrev pub invariant-loop-i : goal.invariant-loop-i
invariant-loop-i l =
    let ls = (lists_read l.lists).lists in
    Judged (λ (j : ℕ). row_fit l.held (line_of ls j)) (rows_of ls) l.i × Added (λ (j : ℕ). line_length l.lot (entry ls.elevators j) (entry ls.lots j)) 79 l.bytes l.i
