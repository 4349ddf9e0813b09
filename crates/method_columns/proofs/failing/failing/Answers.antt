-- The loop's invariant: the lots of the first i sections are in their places.
use Rattle.numbers.proofs.Words.{ℕ, arith, ◌≡◌, sym, ap, ap₂, ◌∙◌, List, [], length, get_or-take, entry}
use Rattle.numbers.proofs.Filled.{filled_none, filled_next, filled_end}
use Rattle.numbers.proofs.Ranges.{listed-length, listed_at}
use Rattle.rules.specs.Book.{held_sections, filed_notices, section_of_noughts}
use Rattle.rules.specs.Expiry.Failing.{noticed}
use Rattle.book_laws.proofs.Good.{facts}
use Rattle.book_laws.proofs.Held.{held_length}
use Rattle.method_columns.specs.Failing.{failed_lots}
use Rattle.method_columns.proofs.failing.failing.Goals as goal

pub loop-i-init : goal.loop-i-init
loop-i-init c = filled_none _ _

pub offset_bounds-b-i : goal.offset_bounds-b-i
offset_bounds-b-i c = omega (arith, (facts _ c.requires.0).held)

pub bounds-b-i : goal.bounds-b-i
bounds-b-i c = omega (arith, (facts _ c.requires.0).held)

pub bounds-sums-i : goal.bounds-sums-i
bounds-sums-i c =
    let b = c.args.b in
    omega (arith, ap length c.requires.2, listed-length b.held (noticed (filed_notices b)))

pub loop-i-preserved : goal.loop-i-preserved
loop-i-preserved c =
    let b = c.args.b in
    let i = c.loop-i.i in
    -- the section's entry of `sums` is the lots of its notices
    let summed : entry c.args.sums.now i ≡ noticed (filed_notices b) i =
    ap (λ (sums : List ℕ). entry sums i) c.requires.2 ∙ listed_at b.held (noticed (filed_notices b)) i 0 c.loop-i-test.true in
    filled_next c.loop-i.invariant (omega arith) c.failed.result
    (c.failed.ensures ∙ ap₂ (failed_lots c.args.met) (sym (get_or-take b.held b.sections i (section_of_noughts []) c.loop-i-test.true)) summed)

pub returns : goal.returns
returns c =
    let b = c.args.b in
    let book = facts _ c.requires.0 in
    let count = held_length b book.section_places_lem book.held in
    filled_end c.loop-i.invariant (omega arith) (length (held_sections b)) (omega (arith, count))
