use Rattle.numbers.proofs.Words.{arith}
use Rattle.rules.specs.Listing.{row}
use Rattle.rules.specs.Label.{label_printed}
use Rattle.listing.proofs.Laws.Most.{decimal_few}
use Rattle.label.proofs.printed.Goals as goal

pub number-requires : goal.number-requires
number-requires c = omega (arith, decimal_few c.counted-bytes.result, c.requires)

pub returns : goal.returns
unfolding label_printed row
returns c = rw c.counted-bytes.ensures at c.number.ensures
