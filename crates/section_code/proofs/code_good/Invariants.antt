use Rattle.numbers.proofs.Words.{◌≡◌, drop, every}
use Rattle.rules.specs.Book.{byte_good}
use Rattle.section_code.proofs.code_good.Given as goal

abbrev pub invariant-loop-byte : goal.invariant-loop-byte
invariant-loop-byte l = every byte_good l.fn.code ≡ every byte_good (drop l.byte-index l.byte-items)
