use Rattle.numbers.proofs.Words.{arith, rules, ℕ, ◌∙◌, ap, Bool, List, length, ℤ, entry_ℤ}
use Rattle.rules.specs.declared.book.{Section.Section}
use Rattle.rules.specs.Expiry.{opposed}
use Rattle.rules.specs.Book.{position_of}
use Rattle.method_laws.proofs.Columns.{position_at, positions_long}
use Rattle.method_giving.proofs.Laws.{chosen_by}
use Rattle.method_giving.proofs.chosen.opposed_to.Goals as goal

abbrev test : List ℤ → ℤ → ℕ → Bool
test positions d i = opposed (entry_ℤ positions i) d

pub returns : goal.returns
returns c =
    let a = c.args in
    λ ss positions_are.
    c.keep.ensures (test a.positions.now a.d) (λ i r h ran. search rules)
    ∙ chosen_by ss (test a.positions.now a.d) (λ (s : Section). opposed (position_of s) a.d) a.lots.now (length a.lots.now) (omega (arith, positions_long ss positions_are))
    (λ i. ap (λ (z : ℤ). opposed z a.d) (position_at ss positions_are i))
