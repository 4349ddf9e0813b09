-- The loop's invariant: the first k lots are added to the entries of their sections.
use Rattle.numbers.proofs.Words.{arith, refl, entry}
use Rattle.method_columns.proofs.Adding.{added_none, added_within, added_next}
use Rattle.method_columns.proofs.by_section.add.Goals as goal

pub loop-k-init : goal.loop-k-init
loop-k-init c = added_none _ _ _

pub overflow_add-sums : goal.overflow_add-sums
overflow_add-sums c =
    omega (arith, added_within c.loop-k.invariant 382_000_000 c.requires.small.0 c.requires.small.1 (entry c.args.numbers.now c.loop-k.k), c.requires.small.0 c.loop-k.k)

pub loop-k-preserved : goal.loop-k-preserved
loop-k-preserved c = added_next c.loop-k.invariant c.loop-k-test.true (c.requires.numbers_len_bound.2 c.loop-k.k c.loop-k-test.true) _ refl
