-- The lists that are read, as the definitions have them.
use Rattle.rules.specs.File.{Lent}
use Rattle.shared_lists.specs.declared.{Lists.Lists}

abbrev pub lists_read : Lists → Lent
lists_read l = record {
  lists = record {
    buyers = l.buyers.now;
    elevators = l.elevators.now;
    sellers = l.sellers.now;
    lots = l.lots.now;
    delivered = l.delivered.now;
    terminated = l.terminated.now;
    lapsed = l.lapsed.now;
  };
  sums = l.sums.now;
}
