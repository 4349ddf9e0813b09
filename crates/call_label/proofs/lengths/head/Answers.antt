use Rattle.numbers.proofs.Words.{arith, length-append}
use Rattle.numbers.specs.Text.{bytes}
use Rattle.rules.specs.Listing.{row}
use Rattle.call_label.proofs.lengths.head.Goals as goal

pub returns : goal.returns
unfolding row bytes
returns c = (simp length-append (omega (arith, c.digits-count.ensures.0)), omega (arith, c.digits-count.ensures.1))
