-- The lots kept are lent, and what stays inside stands in a copy of them.
use Rattle.numbers.proofs.Words.{rules, ◌≤◌, arith, ◌≡◌, refl, sym, ap, subst, ◌∙◌, true, take, length, length-take-le, less}
use Rattle.numbers.proofs.Front.{front_of}
use Rattle.rules.specs.Expiry.Outside
use Rattle.method_laws.specs.Columns.{Small}
use Rattle.method_laws.specs.Giving.{given_by_size}
use Rattle.method_steps.proofs.Laws.{left_small}
use Rattle.method_account.specs.Gives.{may_give}
use Rattle.method_account.proofs.Laws.{gives_same, given_small}
use Rattle.method_account.proofs.outside.part.Goals as goal

pub returns : goal.returns
unfolding Outside.outside
returns c =
    let many = length (c.args.columns.codes.now) in
    let array = c.args.kept in
    let kept = take many array in
    let far = c.by_code-giving.result.given in
    let kept_places : length array ≡ 128 = search rules in
    let kept_fits : many ≤ length array = omega (arith, kept_places, c.requires.0.few) in
    let kept_long = length-take-le many array kept_fits in
    let same : kept ≡ kept = refl in
    -- what stays inside
    let near = front_of many array c.less.new.lots kept_fits c.less.auto.lots in record {
      outside_of = λ ss columns.
          let nets_are = c.nets.ensures.out_after ss columns.codes_are columns.positions_are in
          let step = gives_same true ss (may_give true ss) (given_by_size true ss) c.by_code-giving.result kept_long nets_are same (c.by_code-giving.ensures.gives ss columns) in
          record { nets_are = nets_are; gives = step; near_are = near.is ∙ c.less.ensures ∙ ap (less kept) step.given_are };
      small = (
        subst Small (sym (near.is ∙ c.less.ensures)) (left_small 1_000_000 kept (take many far) c.requires.1),
        given_small kept far kept_long c.requires.1 c.by_code-giving.ensures.at_most,
      );
    }
