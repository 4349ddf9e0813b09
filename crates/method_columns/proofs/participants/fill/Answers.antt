-- The loop's invariant: the participants of the first i sections are in their places.
use Rattle.numbers.proofs.Words.{arith, refl, ◌∙◌, []}
use Rattle.rules.specs.declared.book.{Section.Section}
use Rattle.numbers.proofs.Filled.{filled_none, filled_next, filled_end}
use Rattle.numbers.proofs.Ranges.{listed_front}
use Rattle.rules.specs.Book.{section_of_noughts}
use Rattle.book_laws.proofs.Good.{facts}
use Rattle.method_columns.proofs.participants.fill.Goals as goal

pub loop-i-init : goal.loop-i-init
loop-i-init c = filled_none _ _

pub offset_bounds-b-i : goal.offset_bounds-b-i
offset_bounds-b-i c = omega (arith, (facts _ c.requires.0).held)

pub bounds-b-i : goal.bounds-b-i
bounds-b-i c = omega (arith, (facts _ c.requires.0).held)

pub loop-i-preserved : goal.loop-i-preserved
loop-i-preserved c = filled_next c.loop-i.invariant (omega arith) _ refl

pub returns : goal.returns
returns c =
    let b = c.args.b in
    let book = facts _ c.requires.0 in
    filled_end c.loop-i.invariant (omega arith) b.held c.requires.1
    ∙ listed_front (λ (s : Section). s.participant) b.sections (section_of_noughts []) b.held (omega (arith, book.held, book.section_places_lem))
