use Rattle.numbers.proofs.Words.{sym}
use Rattle.call_block.proofs.Laws.{accepted_block}
use Rattle.call_block.proofs.trade_block.Goals as goal

pub offer-requires : goal.offer-requires
offer-requires c = accepted_block _ _ _ (sym c.in_ok-check.ensures)
