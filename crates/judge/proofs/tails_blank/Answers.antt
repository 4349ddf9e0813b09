use Rattle.numbers.proofs.Words.{◌≡◌, ◌∙◌, ap₂, ◌&&◌, drop, rules}
use Rattle.std.proofs.Common.{tests}
use Rattle.std.specs.List.{list_all}
use Rattle.std.proofs.lemmas.Iterator.{YieldsList-from_slice}
use Rattle.std.proofs.lemmas.Iterator.Adapters.{YieldsList-from_skip}
use Rattle.std.proofs.lemmas.Iterator.Search.{all_from_yields_List}
use Rattle.rules.specs.Book.{section_blank, notice_blank, tails_blank}
use Rattle.judge.proofs.Laws.{all_every}
use Rattle.judge.proofs.tails_blank.Goals as goal

pub returns : goal.returns
unfolding tails_blank
returns c =
    let b = c.args.b in
    let sections : c.all-sections.result ≡ list_all section_blank (drop b.held b.sections) = all_from_yields_List section_blank _ _ c.all-sections.result c.all-sections.ensures.ran (YieldsList-from_skip b.held (YieldsList-from_slice b.sections cc) cc) (λ x r q k. search (rules, tests)) in
    let notices : c.all-notices.result ≡ list_all notice_blank (drop b.filed b.notices) = all_from_yields_List notice_blank _ _ c.all-notices.result c.all-notices.ensures.ran (YieldsList-from_skip b.filed (YieldsList-from_slice b.notices cc) cc) (λ x r q k. search (rules, tests)) in
    ap₂ ◌&&◌ (sections ∙ all_every section_blank _) (notices ∙ all_every notice_blank _)
