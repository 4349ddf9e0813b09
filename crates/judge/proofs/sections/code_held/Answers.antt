use Rattle.numbers.proofs.Words.{◌≡◌, ◌∙◌, Bool, take, same, rules}
use Rattle.std.proofs.Common.{tests}
use Rattle.std.specs.List.{list_any}
use Rattle.std.proofs.lemmas.Iterator.{YieldsList-from_slice, YieldsList-from_take}
use Rattle.std.proofs.lemmas.Iterator.Search.{any_from_yields_List}
use Rattle.rules.specs.declared.book.{Section.Section}
use Rattle.judge.proofs.Laws.{any_some}
use Rattle.judge.proofs.sections.code_held.Goals as goal

pub returns : goal.returns
returns c =
    let b = c.args.b in
    let test : Section → Bool = λ (s : Section). same c.args.code s.code in
    let any : c.any.result ≡ list_any test (take b.held b.sections) = any_from_yields_List test _ _ c.any.result c.any.ensures.ran (YieldsList-from_take b.held (YieldsList-from_slice b.sections cc) cc) (λ x r q k. search (rules, tests)) in
    any ∙ any_some test (take b.held b.sections)
