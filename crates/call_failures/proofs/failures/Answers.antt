-- All patterns counted, of a call that is accepted.
use Rattle.numbers.proofs.Words.{sym, some, leb, leb-false}
use Rattle.numbers.proofs.Tests.{or_left, or_right}
use Rattle.pattern_laws.proofs.Accepted.{accepted}
use Rattle.call_failures.proofs.Laws.{answer_accepted, named_below}
use Rattle.call_failures.proofs.failures.Goals as goal

pub counted-counts-requires : goal.counted-counts-requires
counted-counts-requires c =
    let a = c.args in
    let held = a.b.held in
    let facts = accepted a.b a.asked (a.named.now) (sym c.in_ok-check.ensures) in (
      facts.book,
      facts.running,
      leb-false held a.asked (or_left (leb held a.asked) (some (leb held) (a.named.now)) facts.known),
      named_below held (a.named.now) (or_right (leb held a.asked) (some (leb held) (a.named.now)) facts.known),
      facts.few,
    )

pub returns : goal.returns
returns c =
    let a = c.args in
    answer_accepted a.b a.asked (a.named.now) c.counted-counts.result c.in_ok-check.ensures c.counted-counts.ensures
