-- Three local lists, one after the other: the lots, the order by them, and what is given.
use Rattle.numbers.proofs.Words.{ℕ, arith, sym, ap, ◌∙◌, List, length, entry}
use Rattle.numbers.proofs.Front.{noughts_front, Front, front_of}
use Rattle.method_laws.specs.Giving.{given_by_size}
use Rattle.method_laws.proofs.Columns.{codes_long}
use Rattle.method_steps.proofs.Laws.{noughts}
use Rattle.method_account.specs.Gives.{may_give}
use Rattle.method_account.proofs.Laws.{gives_of}
use Rattle.method_account.proofs.giving.by_code.Goals as goal
use Rattle.method_account.proofs.giving.by_code.Goals.{After-give, After-in_order, After-on_side_in_codes}

-- the lots, the order and what is given stand in the fronts of local lists
lots_front : (c : After-on_side_in_codes) → Front (length (c.args.kept.now)) noughts c.on_side_in_codes.new.out
lots_front c = front_of _ _ _ c.requires.0.few c.on_side_in_codes.auto.out

order_front : (c : After-in_order) → Front (length (c.args.kept.now)) noughts c.in_order.new.order
order_front c = front_of _ _ _ c.requires.0.few c.in_order.auto.order

given_front : (c : After-give) → Front (length (c.args.kept.now)) noughts c.give.new.given
given_front c = front_of _ _ _ c.requires.0.few c.give.auto.given

pub give-requires : goal.give-requires
give-requires c = record { held = (c.requires.0, c.requires.1, noughts_front _ 128 c.requires.0.few); nets_small = c.requires.2 }

pub returns : goal.returns
returns c =
    let a = c.args in
    let lots = lots_front (goal.at.returns c).After-on_side_in_codes in
    let order = order_front (goal.at.returns c).After-in_order in
    let given = given_front (goal.at.returns c).After-give in record {
      gives = λ ss columns.
          gives_of columns (sym (codes_long ss columns.codes_are) ∙ c.requires.0.codes_long) a.outside (may_give a.outside ss (a.numbers.now) (a.kept.now)) (given_by_size a.outside ss (a.numbers.now) (a.kept.now)) lots order given
          (c.on_side_in_codes.ensures.out_after ss columns.codes_are columns.positions_are) c.in_order.ensures (c.give.ensures.given_after ss columns);
      at_most = λ i. omega (arith, ap (λ (xs : List ℕ). entry xs i) given.is, c.give.ensures.at_most i);
    }
