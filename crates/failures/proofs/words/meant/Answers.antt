use Rattle.numbers.proofs.Words.{arith, ◌∙◌}
use Rattle.failures.proofs.Laws.Meaning.{meant_code, meant_number}
use Rattle.failures.proofs.words.meant.Goals as goal

pub returns-then-word-eq-CODE_BYTES : goal.returns-then-word-eq-CODE_BYTES
returns-then-word-eq-CODE_BYTES c =
    let start = c in
    λ b is e. c.place_of.ensures ∙ meant_code b is e (start.args.word.now) c.if-word-eq-CODE_BYTES.true (λ i. omega (arith, c.shared_slice_known-2-1.given i)) c.key_of.ensures

pub returns : goal.returns
returns c = λ b is e. c.number_below.ensures ∙ meant_number b is e (c.args.word.now) c.if-word-eq-CODE_BYTES.false
