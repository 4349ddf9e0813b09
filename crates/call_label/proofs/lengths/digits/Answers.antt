use Rattle.numbers.proofs.Words.{ℕ, ◌<◌, arith, ◌≡◌, ap, ◌∙◌, List, entry, listed}
use Rattle.numbers.proofs.Ranges.{listed_at}
use Rattle.call_label.specs.Lengths.{largest_of}
use Rattle.call_label.proofs.Laws.Digits.{passed_none, passed_next, passed_all, passed_end}
use Rattle.call_label.proofs.lengths.digits.Goals as goal

-- the table's entry
at : (table : List ℕ) (more : ℕ) → table ≡ listed 20 largest_of → more < 20 → entry table more ≡ largest_of more
at table more e h = ap (λ (t : List ℕ). entry t more) e ∙ listed_at 20 largest_of more 0 h

pub loop-more-init : goal.loop-more-init
loop-more-init c = passed_none _

pub loop-more-preserved : goal.loop-more-preserved
loop-more-preserved c =
    let here : entry c.largest-table.result c.loop-more.more ≡ largest_of c.loop-more.more = at c.largest-table.result c.loop-more.more c.largest-table.ensures c.loop-more-test.true in
    passed_next c.loop-more.invariant (omega (arith, c.ranges.n)) c.loop-more-test.true (omega (arith, c.if-n-most.false))

pub returns-then-n-most : goal.returns-then-n-most
returns-then-n-most c =
    let here : entry c.largest-table.result c.loop-more.more ≡ largest_of c.loop-more.more = at c.largest-table.result c.loop-more.more c.largest-table.ensures c.loop-more-test.true in
    (passed_end c.loop-more.invariant (omega (arith, c.ranges.n)) c.loop-more-test.true (omega (arith, c.if-n-most.true)), omega (arith, c.loop-more-test.true))

pub returns : goal.returns
returns c = absurd (passed_all c.loop-more.invariant (omega (arith, c.ranges.n)) c.loop-more-test.false)
