use Rattle.numbers.proofs.Words.{rules, ℕ, arith, ap, ap₂, ◌∙◌, List, set, pos, nat_abs, w64, entry_ℤ}
use Rattle.numbers.proofs.Whole.{read_back}
use Rattle.numbers.proofs.Lists.{has, written_next}
use Rattle.method_giving.proofs.lists.magnitudes.Goals as goal

pub loop-i-preserved : goal.loop-i-preserved
loop-i-preserved c =
    let a = c.args in
    let i = c.loop-i.i in (
      search rules,
      ap₂ (λ (xs : List ℕ) (n : ℕ). set xs i n) c.loop-i.invariant.1 (c.unsigned_abs.ensures.value ∙ ap nat_abs (read_back w64 (entry_ℤ a.numbers.now i) (search rules)))
          ∙ written_next nat_abs a.out.now (has a.numbers.now i (pos 0) c.loop-i-test.true) (omega arith),
    )
