-- Three local lists, one after the other: the lots, the order by them, and what is given.
use Rattle.numbers.proofs.Words.{sym, ap, ◌∙◌, length, ℤ, false, to_z-of_z}
use Rattle.numbers.proofs.Front.{noughts_front, Front, front_of}
use Rattle.rules.specs.Expiry.Across.{given_across}
use Rattle.method_laws.proofs.Columns.{codes_long}
use Rattle.method_steps.proofs.Laws.{noughts}
use Rattle.method_account.specs.Gives.{may_give_across}
use Rattle.method_account.proofs.Laws.{gives_of}
use Rattle.method_account.proofs.giving.over_codes.Goals as goal
use Rattle.method_account.proofs.giving.over_codes.Goals.{After-give_across, After-in_order, After-opposed_to}

-- the lots, the order and what is given stand in the fronts of local lists
lots_front : (c : After-opposed_to) → Front (length (c.args.left.now)) noughts c.opposed_to.new.out
lots_front c = front_of _ _ _ c.requires.0.few c.opposed_to.auto.out

order_front : (c : After-in_order) → Front (length (c.args.left.now)) noughts c.in_order.new.order
order_front c = front_of _ _ _ c.requires.0.few c.in_order.auto.order

given_front : (c : After-give_across) → Front (length (c.args.left.now)) noughts c.give_across.new.given
given_front c = front_of _ _ _ c.requires.0.few c.give_across.auto.given

pub give_across-requires : goal.give_across-requires
give_across-requires c = (c.requires.0, noughts_front _ 128 c.requires.0.few, c.requires.1)

pub returns : goal.returns
returns c = λ ss columns.
    let left = c.args.left.now in
    let d = to_z-of_z c.ranges.d in
    let lots = lots_front (goal.at.returns c).After-opposed_to in
    let order = order_front (goal.at.returns c).After-in_order in
    let given = given_front (goal.at.returns c).After-give_across in
    gives_of columns (sym (codes_long ss columns.codes_are) ∙ c.requires.0.codes_long) false (may_give_across ss c.args.d left) (given_across ss c.args.d left) lots order given
    (c.opposed_to.ensures ss columns.positions_are ∙ ap (λ (d : ℤ). may_give_across ss d left) d) c.in_order.ensures
    (c.give_across.ensures ss columns ∙ ap (λ (d : ℤ). given_across ss d left) d)
