use Rattle.numbers.proofs.Words.{◌≡◌, ◌∙◌, Bool, eqb, take, ◌and◌, rules}
use Rattle.std.proofs.Common.{tests}
use Rattle.std.specs.List.{list_any}
use Rattle.std.proofs.lemmas.Iterator.{YieldsList-from_slice, YieldsList-from_take}
use Rattle.std.proofs.lemmas.Iterator.Search.{any_from_yields_List}
use Rattle.rules.specs.declared.book.{Notice.Notice}
use Rattle.judge.proofs.Laws.{any_some}
use Rattle.judge.proofs.notices.notice_filed.Goals as goal

pub returns : goal.returns
returns c =
    let b = c.args.b in
    let test : Notice → Bool = λ (n : Notice). eqb c.args.section n.section and eqb c.args.elevator n.elevator in
    let any : c.any.result ≡ list_any test (take b.filed b.notices) = any_from_yields_List test _ _ c.any.result c.any.ensures.ran (YieldsList-from_take b.filed (YieldsList-from_slice b.notices cc) cc) (λ x r q k. search (rules, tests)) in
    any ∙ any_some test (take b.filed b.notices)
