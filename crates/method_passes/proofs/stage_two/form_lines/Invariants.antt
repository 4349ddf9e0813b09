-- The loop's invariant: the lines formed so far, and those that stage two forms of what is left, are all the lines.
use Rattle.numbers.proofs.Words.{length, ◌++◌}
use Rattle.method_laws.specs.Columns.{by_key}
use Rattle.method_passes.specs.Formed.{pairs_in, lines_in, lines_from}
use Rattle.method_passes.proofs.Lining.{Lining}
use Rattle.method_passes.proofs.stage_two.form_lines.Given as goal

abbrev pub invariant-loop-turn : goal.invariant-loop-turn
invariant-loop-turn l = Lining (by_key l.keys) l.sellers l.stands (length l.keys) l.turns l.count (lines_in l.initial.g ++ lines_from (by_key l.keys) l.sellers l.stands (pairs_in l.initial.ps) l.initial.drawn) l.drawn l.ps l.g l.turn
