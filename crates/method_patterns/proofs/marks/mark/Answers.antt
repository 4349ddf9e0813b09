use Rattle.numbers.proofs.Words.{ℕ, ◌+◌, ◌/◌, ◌≤◌, ◌<◌, ◌≡◌, sym, ap, ◌∙◌, List, length, drop, drop_of_length-le, set, length-set, entry}
use Rattle.numbers.proofs.Lists.{has, from_here}
use Rattle.method_patterns.specs.Patterns.{met_in, fails_marked, fails_under}
use Rattle.method_patterns.proofs.marks.mark.Goals as goal

-- one section more
turn : (own still failed named : List ℕ) (rest j : ℕ) → j < length named
    → fails_under own still failed (drop j named) rest ≡ fails_under own still (fails_marked own still failed (entry named j) (met_in rest)) (drop (j + 1) named) (rest / 2)
unfolding fails_under
turn own still failed named rest j here = ap (λ (left : List ℕ). fails_under own still failed left rest) (from_here (has named j 0 here))

no_more : (own still failed named : List ℕ) (rest j : ℕ) → length named ≤ j → fails_under own still failed (drop j named) rest ≡ failed
unfolding fails_under
no_more own still failed named rest j past = ap (λ (left : List ℕ). fails_under own still failed left rest) (drop_of_length-le named past)

pub loop-section-preserved : goal.loop-section-preserved
loop-section-preserved c =
    let a = c.args in
    let section = entry (a.named.now) c.loop-section.section-index in (
      length-set c.loop-section.failed section c.failing.result ∙ c.loop-section.invariant.0,
      ap (λ (x : ℕ). fails_under (a.own.now) (a.still.now) (set c.loop-section.failed section x) (drop (c.loop-section.section-index + 1) (a.named.now)) (c.loop-section.rest / 2)) c.failing.ensures
          ∙ sym (turn (a.own.now) (a.still.now) c.loop-section.failed (a.named.now) c.loop-section.rest c.loop-section.section-index c.loop-section-test.true)
          ∙ c.loop-section.invariant.1,
    )

pub returns : goal.returns
returns c =
    let a = c.args in
    sym (no_more (a.own.now) (a.still.now) c.loop-section.failed (a.named.now) c.loop-section.rest c.loop-section.section-index c.loop-section-test.false) ∙ c.loop-section.invariant.1
