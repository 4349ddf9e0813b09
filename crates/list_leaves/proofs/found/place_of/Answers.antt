use Rattle.std.proofs.Common.{ℕ, ◌∙◌, ◌&&◌, not, eqb, rules, tests}
use Rattle.std.specs.List.{zip}
use Rattle.std.proofs.lemmas.Iterator.{YieldsList-from_slice, YieldsList-from_zip}
use Rattle.std.proofs.lemmas.Iterator.Consumers.{YieldsList-at, count_from_yields_List}
use Rattle.std.proofs.lemmas.Iterator.Search.{YieldsList-from_take_while}
use Rattle.std.proofs.lemmas.List.Folds.{length-prefix_len}
use Rattle.list_leaves.proofs.Laws.{pairs_before}
use Rattle.list_leaves.proofs.found.place_of.Goals as goal

pub returns : goal.returns
returns c =
    let a = c.args in
    let test : ℕ × ℕ → _ = λ p. not (eqb p.0 a.x && eqb p.1 a.y) in
    count_from_yields_List c.take_while.result _ c.count.ensures.ran (YieldsList-from_take_while _ test (YieldsList-at c.take_while.ensures.source (YieldsList-from_zip (YieldsList-from_slice a.firsts.now cc) (YieldsList-from_slice a.seconds.now cc))) c.take_while.ensures.closure c.take_while.ensures.done (λ x r q k. search (rules, tests)))
    ∙ length-prefix_len test (zip a.firsts.now a.seconds.now)
    ∙ pairs_before a.x a.y a.firsts.now a.seconds.now
