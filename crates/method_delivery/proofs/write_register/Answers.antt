-- Each list gets its column of the lines.
use Rattle.numbers.proofs.Words.{ℕ, arith, ap, ◌∙◌, List, over, rules}
use Rattle.method_passes.proofs.Arrays.{Places}
use Rattle.method_delivery.proofs.Laws.{buyers_in, elevators_in_lem, sellers_in_lem, lots_in_lem}
use Rattle.method_delivery.proofs.write_register.Goals as goal

abbrev onto : List ℕ → List ℕ → List ℕ
onto was written = over written was

pub returns-clause-lists_after : goal.returns-clause-lists_after
returns-clause-lists_after c =
    let g = c.args.g in
    let was = c.args.lists.now in
    let places : Places g = record { buyers = search rules; elevators = search rules; sellers = search rules; lots = search rules } in
    λ k. record {
      buyers = (c.column.ensures ∙ ap (onto was.buyers.now) (buyers_in g (omega (arith, places.buyers, c.requires.0)))) k;
      elevators = (c.column-2.ensures ∙ ap (onto was.elevators.now) (elevators_in_lem g (omega (arith, places.elevators, c.requires.0)))) k;
      sellers = (c.column-3.ensures ∙ ap (onto was.sellers.now) (sellers_in_lem g (omega (arith, places.sellers, c.requires.0)))) k;
      lots = (c.column-4.ensures ∙ ap (onto was.lots.now) (lots_in_lem g (omega (arith, places.lots, c.requires.0)))) k;
      delivered = was.delivered.now;
      terminated = was.terminated.now;
      lapsed = was.lapsed.now;
    }
