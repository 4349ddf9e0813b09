-- The loop's invariant: the first i entries of each column are in their places.
use Rattle.numbers.proofs.Words.{◌≤◌, arith, ◌≡◌, refl, ◌∙◌, [], true, length, w64, to_z-of_z, big_endian}
use Rattle.rules.specs.declared.book.{Book.Book, Section.Section}
use Rattle.numbers.proofs.Filled.{filled_none, filled_next, filled_end}
use Rattle.numbers.proofs.Ranges.{listed_front}
use Rattle.rules.specs.Book.{good, section_of_noughts, position_of}
use Rattle.book_laws.proofs.Good.{facts}
use Rattle.method_columns.proofs.sections.fill.Goals as goal

front : (b : Book) → good b ≡ true → b.held ≤ length b.sections
front b h = omega (arith, (facts b h).held, (facts b h).section_places_lem)

pub loop-i-init : goal.loop-i-init
loop-i-init c = (filled_none _ _, filled_none _ _, filled_none _ _)

pub offset_bounds-b-i : goal.offset_bounds-b-i
offset_bounds-b-i c = omega (arith, (facts _ c.requires.0).held)

pub bounds-b-i : goal.bounds-b-i
bounds-b-i c = omega (arith, (facts _ c.requires.0).held)

pub loop-i-preserved : goal.loop-i-preserved
loop-i-preserved c = (
  filled_next c.loop-i.invariant.0 (omega arith) _ refl,
  filled_next c.loop-i.invariant.1 (omega arith) _ (to_z-of_z {w = w64} (record { sfits = search })),
  filled_next c.loop-i.invariant.2 (omega arith) c.key.result c.key.ensures.value,
)

pub returns-clause-codes_after : goal.returns-clause-codes_after
returns-clause-codes_after c =
    let b = c.args.b in
    filled_end c.loop-i.invariant.0 (omega arith) b.held c.requires.1 ∙ listed_front (λ (s : Section). s.settlement) b.sections (section_of_noughts []) b.held (front _ c.requires.0)

pub returns-clause-positions_after : goal.returns-clause-positions_after
returns-clause-positions_after c =
    let b = c.args.b in
    filled_end c.loop-i.invariant.1 (omega arith) b.held c.requires.2 ∙ listed_front position_of b.sections (section_of_noughts []) b.held (front _ c.requires.0)

pub returns-clause-keys_after : goal.returns-clause-keys_after
returns-clause-keys_after c =
    let b = c.args.b in
    filled_end c.loop-i.invariant.2 (omega arith) b.held c.requires.3 ∙ listed_front (λ (s : Section). big_endian s.code) b.sections (section_of_noughts []) b.held (front _ c.requires.0)
