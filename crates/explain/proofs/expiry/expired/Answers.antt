use Rattle.explain.proofs.Laws.{accepted_good}
use Rattle.explain.proofs.expiry.expired.Goals as goal

pub steps-requires : goal.steps-requires
steps-requires g c = accepted_good c.args.b _ c.in-Ok.ensures.value
