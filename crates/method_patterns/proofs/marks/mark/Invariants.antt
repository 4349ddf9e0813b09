-- The loop's invariant: what is left of the sections named, by what is left of the pattern's digits, on the list now, gives what was asked of the list at first.
use Rattle.numbers.proofs.Words.{◌≡◌, length, drop}
use Rattle.method_patterns.specs.Patterns.{fails_under}
use Rattle.method_patterns.proofs.marks.mark.Given as goal

abbrev pub invariant-loop-section : goal.invariant-loop-section
invariant-loop-section l =
    (length l.failed ≡ length l.initial.failed) × (fails_under l.own l.still l.failed (drop l.section-index l.named) l.rest ≡ fails_under l.own l.still l.initial.failed l.named l.pattern)
