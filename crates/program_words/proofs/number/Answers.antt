use Rattle.std.proofs.Common.{None, rules}
use Rattle.numbers.proofs.Words.{◌<◌, arith, ◌≡◌, sym, ◌∙◌, length}
use Rattle.numbers.proofs.Lists.{has}
use Rattle.program_words.proofs.Digits.{read_next, read_none, read_end, read_number, no_word}
use Rattle.program_words.proofs.number.Goals as goal
use Rattle.program_words.proofs.number.Goals.{Else-length-eq0}

-- past the test there is a byte
some_byte : (c : Else-length-eq0) → 0 < length c.args.word.now
some_byte c = omega (arith, c.if-length-eq0.false)

pub returns-then-length-eq0 : goal.returns-then-length-eq0
returns-then-length-eq0 c = no_word _ (omega (arith, c.if-length-eq0.true))

pub returns-in_err-n : goal.returns-in_err-n
returns-in_err-n c =
    let xs = c.args.word.now in
    let none : c.from_residual.result ≡ None = search rules in
    none
    ∙ sym (read_none (has xs c.loop-b.b-index 0 (omega arith)) c.loop-b.n (sym c.with_digit.ensures ∙ c.in_err-n.was))
    ∙ c.loop-b.invariant
    ∙ read_number xs (some_byte (goal.at.returns-in_err-n c).Else-length-eq0)

pub loop-b-preserved : goal.loop-b-preserved
loop-b-preserved c =
    sym (read_next (has c.args.word.now c.loop-b.b-index 0 (omega arith)) c.loop-b.n _ (sym c.with_digit.ensures ∙ c.in_ok-n.was)) ∙ c.loop-b.invariant

pub returns : goal.returns
returns c =
    let xs = c.args.word.now in
    sym (read_end xs c.loop-b.b-index c.loop-b.n (omega arith)) ∙ c.loop-b.invariant ∙ read_number xs (some_byte (goal.at.returns c).Else-length-eq0)
