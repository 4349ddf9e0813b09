-- The local lists are noughts at first.
use Rattle.numbers.proofs.Words.{replicate, length-take-le}
use Rattle.numbers.proofs.Front.{noughts_front}
use Rattle.method_register.proofs.passes.form.Goals as goal

pub split-requires-clause-near_len : goal.split-requires-clause-near_len
split-requires-clause-near_len c = (length-take-le _ (replicate 128 0) c.requires.held.few, noughts_front _ 128 c.requires.held.few)
