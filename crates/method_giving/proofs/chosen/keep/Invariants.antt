-- The loop's invariant: the first i entries are those of the test, whatever it tests, and the others are as they were.
use Rattle.numbers.proofs.Words.{ℕ, Bool, ◌<◌, ◌≡◌, length}
use Rattle.numbers.proofs.Filled.{Filled}
use Rattle.method_giving.proofs.Laws.{lots_chosen}
use Rattle.method_giving.proofs.chosen.keep.Given as goal

abbrev pub invariant-loop-i : goal.invariant-loop-i
invariant-loop-i g l = (passes : ℕ → Bool) → ((i : ℕ) (r : Bool) → i < length l.lots → goal.F-post g l.test i r → r ≡ passes i) → Filled (lots_chosen passes l.lots) l.initial.out l.out l.i
