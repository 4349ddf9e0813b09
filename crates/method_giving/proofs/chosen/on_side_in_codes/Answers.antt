use Rattle.numbers.proofs.Words.{ℕ, ◌≤◌, arith, rules, sym, ap, ap₂, subst, ◌∙◌, Bool, List, ℤ, length, entry, entry_ℤ}
use Rattle.numbers.proofs.Ranges.{listed_under}
use Rattle.rules.specs.declared.book.{Section.Section}
use Rattle.rules.specs.Book.{position_of}
use Rattle.method_laws.specs.Giving.{on_side}
use Rattle.method_laws.proofs.Columns.{code_at, position_at, codes_long}
use Rattle.method_giving.proofs.Laws.{chosen_by}
use Rattle.method_giving.proofs.chosen.on_side_in_codes.Goals as goal

abbrev test : Bool → List ℕ → List ℤ → List ℤ → ℕ → Bool
test same codes positions numbers i = on_side same (entry_ℤ positions i) (entry_ℤ numbers (entry codes i))

pub returns : goal.returns
returns c =
    let a = c.args in
    let numbers = a.numbers.now in
    let lots = a.lots.now in
    let told = test a.same a.codes.now a.positions.now numbers in
    let all = c.keep.ensures told (λ i r h ran. search rules) in record {
      out_after = λ ss codes_are positions_are.
          all
          ∙ chosen_by ss told (λ (s : Section). on_side a.same (position_of s) (entry_ℤ numbers s.settlement)) lots (length lots) (omega (arith, codes_long ss codes_are))
          (λ i. ap₂ (on_side a.same) (position_at ss positions_are i) (ap (entry_ℤ numbers) (code_at ss codes_are i)));
      at_most = subst (λ (out : List ℕ). (i : ℕ) → entry out i ≤ entry lots i) (sym all) (listed_under (length lots) told (entry lots));
    }
