use Rattle.numbers.proofs.Words.{ap}
use Rattle.rules.specs.declared.units.{Kopecks.Kopecks}
use Rattle.rules.specs.Calls.{settled}
use Rattle.call_session.proofs.settled.Goals as goal

pub returns : goal.returns
unfolding settled
returns c =
    let s = c.args.s in
    ap
    (λ (basis : Kopecks).
    record {
      settlement = s.settlement;
      code = s.code;
      participant = s.participant;
      seller = s.seller;
      met = s.met;
      position = s.position;
      basis = basis;
    })
    c.worth-basis.ensures
