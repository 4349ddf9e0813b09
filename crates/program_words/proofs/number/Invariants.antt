use Rattle.numbers.proofs.Words.{◌≡◌, drop}
use Rattle.program_words.proofs.Digits.{read_from}
use Rattle.program_words.proofs.number.Given as goal

abbrev pub invariant-loop-b : goal.invariant-loop-b
invariant-loop-b l = read_from l.n (drop l.b-index l.word) ≡ read_from 0 l.word
