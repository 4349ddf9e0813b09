use Rattle.numbers.proofs.Words.{arith}
use Rattle.listing.proofs.Laws.Laid.{laid_field}
use Rattle.listing.proofs.text.word.Goals as goal

pub returns : goal.returns
returns c = laid_field c.args.out.now c.args.at _ c.args.text.now c.copy_from_slice.new.self c.args.end c.copy_from_slice.ensures.after (omega arith) c.requires
