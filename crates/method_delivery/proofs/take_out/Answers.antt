-- The lines kept stand in a register of their own on their way: they are no more than there were.
use Rattle.numbers.proofs.Words.{arith, ◌≡◌, sym, ap, ◌∙◌, not, length}
use Rattle.numbers.proofs.Passing.{passing-length}
use Rattle.rules.specs.Expiry.Passes.{Line}
use Rattle.method_passes.specs.Formed.{lines_in}
use Rattle.method_passes.proofs.Arrays.{lines_count}
use Rattle.method_removal.specs.Removed.{one_by, kept_by}
use Rattle.method_delivery.proofs.take_out.Goals as goal

pub write_register-requires : goal.write_register-requires
write_register-requires c =
    let a = c.args in
    let standing = c.kept_lines-standing.result in
    let count_is : standing.count ≡ length (kept_by a.participants.now (lines_in a.g)) = sym (lines_count standing) ∙ ap length c.kept_lines-standing.ensures in
    let room = c.requires.room in
    (omega (arith, count_is, passing-length (λ (l : Line). not (one_by a.participants.now l)) (lines_in a.g), lines_count a.g, c.requires.known.0.few), room.0, room.1, room.2, room.3)

pub returns-clause-value : goal.returns-clause-value
returns-clause-value c = sym (lines_count c.kept_lines-standing.result) ∙ ap length c.kept_lines-standing.ensures
