use Rattle.rules.specs.Listing.{row}
use Rattle.numbers.specs.Text.{bytes}
use Rattle.lastday.proofs.rows.bad.Goals as goal

pub returns : goal.returns
unfolding row bytes
returns c = c.word.ensures
