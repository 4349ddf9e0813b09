use Rattle.numbers.proofs.Words.{◌≤◌, ◌≡◌, length}
use Rattle.lastday.specs.Feeding.{kept_most}
use Rattle.lastday.proofs.main.Given as goal

abbrev pub invariant-loop : goal.invariant-loop
invariant-loop l = (length l.piece ≡ 4_096) × (length l.kept ≡ kept_most) × (length l.out ≡ 45_056) × (l.held ≤ kept_most)
