-- The loop's invariant: the patterns so far are counted, whatever book stands behind the columns.
use Rattle.numbers.proofs.Words.{ℕ}
use Rattle.rules.specs.declared.book.{Book.Book}
use Rattle.rules.specs.Failures.{delivered_in}
use Rattle.method_patterns.specs.Patterns.{book_under, StandsBy, MarksBy}
use Rattle.method_patterns.specs.Endings.{Counted}
use Rattle.method_patterns.proofs.patterns.count.Given as goal

abbrev pub invariant-loop-pattern : goal.invariant-loop-pattern
invariant-loop-pattern l =
    (b : Book) → StandsBy b l.persons l.columns l.notices l.marked.fails.now → MarksBy b l.marked → Counted l.lots (λ (q : ℕ). delivered_in l.asked (book_under b l.marked.named.now q)) l.pattern l.counts
