use Rattle.numbers.proofs.Words.{rules}
use Rattle.method_passes.proofs.Arrays.{Places}
use Rattle.method_removal.proofs.Keeping.{kept_none, kept_next}
use Rattle.method_removal.proofs.kept_lines.Goals as goal

pub loop-k-init : goal.loop-k-init
loop-k-init c =
    let places : Places c.args.g = record { buyers = search rules; elevators = search rules; sellers = search rules; lots = search rules } in
    kept_none c.args.participants.now c.args.g places

pub loop-k-preserved : goal.loop-k-preserved
loop-k-preserved c = kept_next c.loop-k.invariant c.loop-k-test.true c.requires.few c.same_person-same.result c.next_place.result c.same_person-same.ensures c.next_place.ensures
