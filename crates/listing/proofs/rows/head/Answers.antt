use Rattle.numbers.specs.Text.{bytes}
use Rattle.listing.proofs.rows.head.Goals as goal

pub row-requires : goal.row-requires
unfolding bytes
row-requires c = c.requires

pub returns : goal.returns
unfolding bytes
returns c = c.row.ensures
