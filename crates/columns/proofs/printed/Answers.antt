use Rattle.numbers.proofs.Words.{◌≡◌, sym, ap, ◌∙◌}
use Rattle.rules.specs.Answers.{number_in}
use Rattle.file_event.proofs.Laws.Refused.{refused}
use Rattle.columns.proofs.Laws.Printed.{printed_turned, printed_refused, refusal_room}
use Rattle.columns.proofs.printed.Goals as goal

pub refusal-requires : goal.refusal-requires
refusal-requires c =
    let a = c.args in
    let said = c.number_of-number.ensures ∙ c.in-Err.ensures.value in
    let some = λ (none : c.number_of-number.result ≡ 0). refused c.in-Err.refusal (sym c.number_of-number.ensures ∙ none) in
    refusal_room a.back a.file.now a.out.now c.requires.0 said c.in-Err.ensures.lent_after some c.requires.1

pub returns-in-Ok : goal.returns-in-Ok
returns-in-Ok c =
    let a = c.args in
    printed_turned a.back a.file.now a.out.now c.requires.0 c.turned.ensures.value c.turned.ensures.lent_after (ap number_in c.in-Ok.is)

pub returns-in-Err : goal.returns-in-Err
returns-in-Err c =
    let a = c.args in
    let said = c.number_of-number.ensures ∙ c.in-Err.ensures.value in
    let some = λ (none : c.number_of-number.result ≡ 0). refused c.in-Err.refusal (sym c.number_of-number.ensures ∙ none) in
    printed_refused a.back a.file.now a.out.now c.requires.0 said c.in-Err.ensures.lent_after some c.refusal.ensures
