-- The loop's invariant: what is gone of the first k lines is in its places.
use Rattle.numbers.proofs.Words.{ℕ, cond, entry}
use Rattle.numbers.proofs.Filled.{Filled}
use Rattle.method_passes.specs.Formed.{line_in}
use Rattle.method_removal.specs.Removed.{one_by}
use Rattle.method_removal.proofs.removed_lots.Given as goal

abbrev pub invariant-loop-k : goal.invariant-loop-k
invariant-loop-k l = Filled (λ (j : ℕ). cond (one_by l.participants (line_in l.g j)) (entry l.g.lots j) 0) l.initial.gone l.gone l.k
