-- The loop's invariant: what is left of the order, on the state now, gives what the whole order gave on the state at the start, whoever the sections are.
use Rattle.numbers.proofs.Words.{◌≤◌, ◌≡◌, List, length, drop}
use Rattle.rules.specs.declared.book.{Section.Section}
use Rattle.numbers.proofs.Ranges.{Left}
use Rattle.method_laws.specs.Columns.{settlements_of}
use Rattle.method_laws.specs.Giving.{taken_from}
use Rattle.method_giving.proofs.taken.give.Given as goal

abbrev pub invariant-loop-place : goal.invariant-loop-place
invariant-loop-place l =
    (l.place-index ≤ length l.order) × (length l.caps ≡ length l.initial.caps) × Left l.lots l.given
    × ((ss : List Section) → l.codes ≡ settlements_of ss → taken_from ss (drop l.place-index l.order) l.lots l.caps l.left l.given ≡ taken_from ss l.order l.lots l.initial.caps l.need l.initial.given)
