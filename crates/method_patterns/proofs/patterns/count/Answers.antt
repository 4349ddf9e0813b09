use Rattle.numbers.proofs.Words.{le_antisymm, arith, sym, subst, ◌∙◌}
use Rattle.method_patterns.specs.Endings.{Counted}
use Rattle.method_patterns.proofs.Laws.Counting.{counted_none, counted_next, counted_all, counted_most}
use Rattle.method_patterns.proofs.Laws.Marked.{own_long}
use Rattle.method_patterns.proofs.patterns.count.Goals as goal
use Rattle.method_patterns.proofs.patterns.count.Goals.{After-pattern_count-patterns, At-loop-pattern, Start}

pub bounds-marked-asked : goal.bounds-marked-asked
bounds-marked-asked c = let named = c.requires.0 in omega (arith, c.requires.1, own_long named.is named.marks)

pub loop-pattern-init : goal.loop-pattern-init
loop-pattern-init c = λ b is marks. subst (Counted _ _ 0) (sym c.no_patterns-counts.ensures) (counted_none _ _)

pub with_ending-counts-requires : goal.with_ending-counts-requires
with_ending-counts-requires c =
    let named = c.requires.0 in
    let most = counted_most (c.loop-pattern.invariant named.book named.is named.marks) in
    let few = c.pattern_count-patterns.ensures.1 in
    (omega (arith, most.0, few), omega (arith, most.1, few), omega (arith, most.2, few))

pub loop-pattern-preserved : goal.loop-pattern-preserved
loop-pattern-preserved c =
    λ b is marks. counted_next (c.loop-pattern.invariant b is marks) _ (c.delivered_under-delivered.ensures b is marks) c.with_ending-counts.ensures

pub returns : goal.returns
returns c = λ b is marks.
    let all = le_antisymm c.loop-pattern.auto.pattern-end c.loop-pattern-test.false ∙ c.pattern_count-patterns.ensures.0 in
    counted_all (c.loop-pattern.invariant b is marks) all
