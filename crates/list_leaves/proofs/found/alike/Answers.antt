use Rattle.std.proofs.Common.{ap, ◌∙◌, eqb, length, rules, tests}
use Rattle.std.proofs.lemmas.Iterator.{YieldsList-from_slice}
use Rattle.std.proofs.lemmas.Iterator.Consumers.{YieldsList-from_filter, count_from_yields_List}
use Rattle.list_leaves.proofs.Laws.{kept}
use Rattle.list_leaves.proofs.found.alike.Goals as goal

pub returns : goal.returns
returns c =
    let lots = c.args.lots.now in
    count_from_yields_List c.filter.result _ c.count.ensures.ran (YieldsList-from_filter _ (λ x. eqb x c.args.n) (YieldsList-from_slice lots cc) c.filter.ensures.closure (λ x r q k. search (rules, tests)))
    ∙ ap length (kept (λ x. eqb x c.args.n) lots)
