use Rattle.numbers.proofs.Words.{◌≡◌, length}
use Rattle.lastday.proofs.Laws.Fields.{Reading}
use Rattle.lastday.proofs.fields.read.Given as goal

abbrev pub invariant-loop-field : goal.invariant-loop-field
invariant-loop-field l = (l.count ≡ length l.yielded) × Reading l.row l.numbers l.count
