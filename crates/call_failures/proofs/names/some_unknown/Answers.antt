use Rattle.numbers.proofs.Words.{◌≡◌, ◌∙◌, leb, rules}
use Rattle.std.proofs.Common.{tests}
use Rattle.std.specs.List.{list_any}
use Rattle.std.proofs.lemmas.Iterator.{YieldsList-from_slice}
use Rattle.std.proofs.lemmas.Iterator.Search.{any_from_yields_List}
use Rattle.call_failures.proofs.Laws.{any_some}
use Rattle.call_failures.proofs.names.some_unknown.Goals as goal

pub returns : goal.returns
returns c =
    let named = c.args.named.now in
    let any : c.any.result ≡ list_any (leb c.args.held) named = any_from_yields_List (leb c.args.held) _ _ c.any.result c.any.ensures.ran (YieldsList-from_slice named cc) (λ x r q k. search (rules, tests)) in
    any ∙ any_some (leb c.args.held) named
