-- The calls' `ensures`, one after the other.
use Rattle.numbers.proofs.Words.{ℕ, arith, ap, List, entry}
use Rattle.numbers.proofs.Ranges.{less_at}
use Rattle.method_register.proofs.lots.draw.Goals as goal

pub returns-clause-by_index : goal.returns-clause-by_index
returns-clause-by_index c = (
  c.drawn.ensures.small,
  λ k. omega (arith, ap (λ (xs : List ℕ). entry xs k) c.less.ensures, less_at c.drawn-2.new.out c.drawn.new.out k, c.drawn-2.ensures.small k),
)
