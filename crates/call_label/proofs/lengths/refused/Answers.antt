use Rattle.numbers.proofs.Words.{arith, length-append}
use Rattle.numbers.specs.Text.{bytes}
use Rattle.rules.specs.Listing.{row}
use Rattle.call_label.proofs.lengths.refused.Goals as goal

pub returns : goal.returns
unfolding row bytes
returns c = simp length-append (omega (arith, c.digits-of_number.ensures.0, c.digits-of_place.ensures.0))
