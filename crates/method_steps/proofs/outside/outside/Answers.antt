-- The calls' `ensures`, one after the other.
use Rattle.numbers.proofs.Words.{ap, ◌∙◌, true, List, ℤ}
use Rattle.rules.specs.Expiry.Outside
use Rattle.method_laws.specs.Giving.{given_by_size}
use Rattle.method_steps.proofs.outside.outside.Goals as goal

pub returns-clause-far_after : goal.returns-clause-far_after
unfolding Outside.outside
returns-clause-far_after c = λ ss columns.
    c.give.ensures.given_after ss columns
    ∙ ap (λ (nets : List ℤ). given_by_size true ss nets c.args.kept.now) (c.nets.ensures.out_after ss columns.codes_are columns.positions_are)
