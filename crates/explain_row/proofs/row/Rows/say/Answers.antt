-- A template of 128 bytes comes to 3,584 at most.
use Rattle.numbers.proofs.Words.{arith, sym, length-take-le}
use Rattle.template.proofs.Most.{filled_long}
use Rattle.explain_row.proofs.row.Rows.say.Goals as goal
use Rattle.explain_row.proofs.row.Rows.say.Goals.{After-fill-count}

pub fill-count-requires : goal.fill-count-requires
fill-count-requires g c = omega (arith, filled_long (c.args.template.now) (c.args.numbers.now) (c.args.self.now.names.now), c.requires)

pub slice_bounds-out-end : goal.slice_bounds-out-end
slice_bounds-out-end g c = omega (arith, c.fill-count.ensures.ends, filled_long (c.args.template.now) (c.args.numbers.now) (c.args.self.now.names.now), c.requires, c.fill-count.auto.out)

pub slice_bounds-folded-end : goal.slice_bounds-folded-end
slice_bounds-folded-end g c = sym (length-take-le _ _ (omega (arith, c.fill-count.ensures.ends, filled_long (c.args.template.now) (c.args.numbers.now) (c.args.self.now.names.now), c.requires, c.fill-count.auto.out)))
