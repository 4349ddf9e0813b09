use Rattle.numbers.proofs.Words.{sym, ◌∙◌, ℤ, within, lt-leb, le-leb}
use Rattle.numbers.proofs.Whole.{read_as}
use Rattle.rules.specs.Book.{position_of, basis_of, basis_most, section_good}
use Rattle.judge.proofs.sections.section_good.Goals as goal

pub returns-then-s-gt-SETTLEMENT_MOST : goal.returns-then-s-gt-SETTLEMENT_MOST
unfolding section_good
returns-then-s-gt-SETTLEMENT_MOST c = simp (lt-leb c.args.s.settlement 63 c.if-s-gt-SETTLEMENT_MOST.true)

pub returns-then-not-code_good : goal.returns-then-not-code_good
unfolding section_good
returns-then-not-code_good c = simp (le-leb c.args.s.settlement 63 c.if-s-gt-SETTLEMENT_MOST.false, sym c.code_good.ensures ∙ c.if-not-code_good.true)

pub returns-then-not-within : goal.returns-then-not-within
unfolding section_good
returns-then-not-within c = simp (le-leb c.args.s.settlement 63 c.if-s-gt-SETTLEMENT_MOST.false, sym c.code_good.ensures ∙ c.if-not-code_good.false, sym (c.within.ensures ∙ read_as (λ (z : ℤ). within z 1_000_000) (position_of c.args.s) (search)) ∙ c.if-not-within.true)

pub returns : goal.returns
unfolding section_good
returns c = simp (le-leb c.args.s.settlement 63 c.if-s-gt-SETTLEMENT_MOST.false, sym c.code_good.ensures ∙ c.if-not-code_good.false, sym (c.within.ensures ∙ read_as (λ (z : ℤ). within z 1_000_000) (position_of c.args.s) (search)) ∙ c.if-not-within.false) (c.within-2.ensures ∙ read_as (λ (z : ℤ). within z (basis_most c.args.trades)) (basis_of c.args.s) (search))
