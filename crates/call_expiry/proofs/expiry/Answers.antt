use Rattle.numbers.proofs.Words.{sym, ap, ◌∙◌}
use Rattle.rules.specs.Calls.{first}
use Rattle.rules.specs.Expiry.Call.{Lists, expiry_refusals}
use Rattle.call_expiry.proofs.Answers.{room_of}
use Rattle.call_expiry.proofs.expiry.Goals as goal

pub deliver-counts-requires : goal.deliver-counts-requires
deliver-counts-requires c =
    let said = ap (λ (ls : Lists). first (expiry_refusals c.args.b ls)) (sym c.of_expiry.ensures) ∙ sym c.in_ok-check.ensures in
    (sym c.good.ensures ∙ c.if-not-good.false, room_of _ _ said)
