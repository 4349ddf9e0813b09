-- The loop's invariant: the pairs formed so far, and those that stage one forms of what is left, are all the pairs.
use Rattle.numbers.proofs.Words.{◌-◌, length}
use Rattle.method_laws.specs.Columns.{by_key}
use Rattle.method_passes.specs.Formed.{pairs_from}
use Rattle.method_passes.proofs.Pairing.{Pairing}
use Rattle.method_passes.proofs.stage_one.form_pairs.Given as goal

abbrev pub invariant-loop-ps : goal.invariant-loop-ps
invariant-loop-ps l = Pairing (by_key l.keys) l.turns (length l.keys) (pairs_from (by_key l.keys) l.initial.buyers l.initial.stocks) l.buyers l.stocks l.ps

abbrev pub decreases-loop-ps : goal.decreases-loop-ps
decreases-loop-ps l = l.turns - l.ps.count
