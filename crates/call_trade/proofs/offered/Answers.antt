use Rattle.numbers.proofs.Words.{◌≤◌, sym, rules}
use Rattle.book_laws.proofs.Accepted.{sizes}
use Rattle.call_trade.proofs.offered.Goals as goal

pub room_check-requires : goal.room_check-requires
room_check-requires c =
    let most : c.args.lots ≤ 10_000 = (sizes _ _ _ (sym c.in_ok-size_check.ensures)).lots_range.most in
    search rules
