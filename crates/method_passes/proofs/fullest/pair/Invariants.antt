use Rattle.numbers.proofs.Words.{ℕ, Bool, List}
use Rattle.rules.specs.Expiry.Passes.{pair_of, earlier_pair}
use Rattle.method_laws.specs.Columns.{by_key}
use Rattle.method_passes.specs.declared.{pairs.Pairs.Pairs}
use Rattle.method_passes.specs.Formed.{pairs_in}
use Rattle.method_passes.proofs.Scan.{Scan}
use Rattle.method_passes.proofs.Arrays.{lots_in}
use Rattle.method_passes.proofs.fullest.pair.Given as goal

abbrev pub earlier : List ℕ → Pairs → ℕ → ℕ → Bool
earlier keys ps i j = earlier_pair (by_key keys) (pair_of (pairs_in ps) i) (pair_of (pairs_in ps) j)

abbrev pub invariant-loop-i : goal.invariant-loop-i
invariant-loop-i l = Scan (earlier l.keys l.ps) (lots_in l.ps) l.best l.i
