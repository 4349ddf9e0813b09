use Rattle.numbers.proofs.Words.{zero-add}
use Rattle.numbers.specs.Text.{bytes}
use Rattle.listing.proofs.Laws.Laid.{laid_over}
use Rattle.listing.proofs.refused.Goals as goal

pub row_of_two-requires : goal.row_of_two-requires
unfolding bytes
row_of_two-requires c = rw zero-add c.requires

pub returns : goal.returns
unfolding bytes
returns c =
    let over = laid_over _ c.row_of_two.ensures in
    record { value = over.0; out_after = over.1 }
