-- The lots of the notices are added to noughts.
use Rattle.numbers.proofs.Words.{arith, ◌∙◌, length}
use Rattle.numbers.proofs.Entries.{noughts_known}
use Rattle.numbers.proofs.Ranges.{listed_same}
use Rattle.method_laws.proofs.Columns.{noticed_all}
use Rattle.method_columns.proofs.failing.noticed.Goals as goal

pub returns : goal.returns
returns c =
    let start = c in
    let a = start.args in
    let n = length a.sums.now in
    λ ns e l.
    c.add.ensures
    ∙ listed_same n _ _ (λ i h. omega (arith, noughts_known n start.requires.sellers_len_bound.2 i))
    ∙ noticed_all n ns a.sellers.now a.lots.now e l
