use Rattle.numbers.proofs.Words.{ℕ, Bool, List, entry}
use Rattle.rules.specs.Expiry.Passes.{offers}
use Rattle.method_laws.specs.Columns.{by_key}
use Rattle.method_passes.proofs.Scan.{Scan}
use Rattle.method_passes.proofs.fullest.notice.Given as goal

abbrev pub earlier : List ℕ → List ℕ → ℕ → ℕ → Bool
earlier keys sellers i j = by_key keys (entry sellers i) (entry sellers j)

abbrev pub invariant-loop-i : goal.invariant-loop-i
invariant-loop-i l = Scan (earlier l.keys l.sellers) (offers l.stands l.drawn l.elevator) l.best l.i
