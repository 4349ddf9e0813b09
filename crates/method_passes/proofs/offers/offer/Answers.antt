use Rattle.numbers.proofs.Words.{sym, ◌∙◌}
use Rattle.numbers.proofs.Ranges.{chosen_yes, chosen_no}
use Rattle.method_passes.proofs.Offered.{offer_at_lem}
use Rattle.method_passes.proofs.offers.offer.Goals as goal

pub returns-then-stands-k : goal.returns-then-stands-k
returns-then-stands-k c =
    let a = c.args in
    sym (offer_at_lem a.stands.now a.drawn.now a.elevator a.k c.requires.1 ∙ chosen_yes _ _ _ _ c.if-stands-k.true)

pub returns : goal.returns
returns c =
    let a = c.args in
    sym (offer_at_lem a.stands.now a.drawn.now a.elevator a.k c.requires.1 ∙ chosen_no _ _ _ _ c.if-stands-k.false)
