-- The loop's invariant: the first k entries of each column are in their places.
use Rattle.numbers.proofs.Words.{◌≤◌, ◌≡◌, arith, refl, ◌∙◌, true, length, nat_abs}
use Rattle.rules.specs.declared.book.{Book.Book, Notice.Notice}
use Rattle.numbers.proofs.Filled.{filled_none, filled_next, filled_end}
use Rattle.numbers.proofs.Ranges.{listed_front}
use Rattle.numbers.proofs.Whole.{read_as}
use Rattle.rules.specs.Book.{good, notice_at, blank_notice}
use Rattle.book_laws.proofs.Good.{facts}
use Rattle.method_columns.proofs.notices.fill.Goals as goal

front : (b : Book) → good b ≡ true → b.filed ≤ length b.notices
front b h = omega (arith, (facts b h).filed, (facts b h).notice_places_lem)

pub loop-k-init : goal.loop-k-init
loop-k-init c = (filled_none _ _, filled_none _ _, filled_none _ _)

pub bounds-b-k : goal.bounds-b-k
bounds-b-k c = omega (arith, (facts _ c.requires.0).filed)

pub loop-k-preserved : goal.loop-k-preserved
loop-k-preserved c = (
  filled_next c.loop-k.invariant.0 (omega arith) _ refl,
  filled_next c.loop-k.invariant.1 (omega arith) _ refl,
  filled_next c.loop-k.invariant.2 (omega arith) c.unsigned_abs.result (c.unsigned_abs.ensures.value ∙ read_as nat_abs (notice_at c.args.b c.loop-k.k).lots.0 search),
)

pub returns-clause-sellers_after : goal.returns-clause-sellers_after
returns-clause-sellers_after c =
    let b = c.args.b in
    filled_end c.loop-k.invariant.0 (omega arith) b.filed c.requires.1 ∙ listed_front (λ (n : Notice). n.section) b.notices blank_notice b.filed (front _ c.requires.0)

pub returns-clause-stands_after : goal.returns-clause-stands_after
returns-clause-stands_after c =
    let b = c.args.b in
    filled_end c.loop-k.invariant.1 (omega arith) b.filed c.requires.2 ∙ listed_front (λ (n : Notice). n.elevator) b.notices blank_notice b.filed (front _ c.requires.0)

pub returns-clause-lots_after : goal.returns-clause-lots_after
returns-clause-lots_after c =
    let b = c.args.b in
    filled_end c.loop-k.invariant.2 (omega arith) b.filed c.requires.3 ∙ listed_front (λ (n : Notice). nat_abs n.lots.0) b.notices blank_notice b.filed (front _ c.requires.0)
