use Rattle.numbers.proofs.Words.{arith, rules, ◌≡◌, sym, ◌∙◌, eqb, length, eq-eqb}
use Rattle.numbers.proofs.Lists.{has, every_next, every_stop, every_end}
use Rattle.numbers.proofs.Tests.{together, fails_right}
use Rattle.rules.specs.Book.{byte_good}
use Rattle.section_code.proofs.code_good.Goals as goal

pub returns-then-not-byte_good : goal.returns-then-not-byte_good
returns-then-not-byte_good c =
    let code = c.args.code in
    let long : length code ≡ 7 = search rules in
    sym (fails_right (eqb (length code) 7) _ (c.loop-byte.invariant ∙ every_stop (has code c.loop-byte.byte-index 0 (omega arith)) byte_good (sym c.byte_good.ensures ∙ c.if-not-byte_good.true)))

pub loop-byte-preserved : goal.loop-byte-preserved
loop-byte-preserved c =
    let code = c.args.code in
    let long : length code ≡ 7 = search rules in
    c.loop-byte.invariant ∙ every_next (has code c.loop-byte.byte-index 0 (omega arith)) byte_good (sym c.byte_good.ensures ∙ c.if-not-byte_good.false)

pub returns : goal.returns
returns c =
    let code = c.args.code in
    let long : length code ≡ 7 = search rules in
    sym (together (eq-eqb _ _ long) (c.loop-byte.invariant ∙ every_end code c.loop-byte.byte-index (omega arith) byte_good))
