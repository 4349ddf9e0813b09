use Rattle.numbers.proofs.Words.{refl, sym, ◌∙◌}
use Rattle.rules.specs.Calls.{session_margins}
use Rattle.book_laws.proofs.Answers.{written}
use Rattle.book_laws.proofs.Accepted.{session}
use Rattle.call_session.proofs.Laws.{margin_fits, paid_alone}
use Rattle.call_session.proofs.hold_session.Goals as goal

pub after_session-requires : goal.after_session-requires
after_session-requires c =
    let number = sym c.in_ok-check.ensures in
    (number, margin_fits (session _ _ _ number) _)

pub returns-clause-margins_after : goal.returns-clause-margins_after
unfolding session_margins
returns-clause-margins_after c =
    let none = sym c.in_ok-check.ensures in
    c.after_session.ensures.list_after ∙ paid_alone (session _ _ _ none) _ ∙ written 0 _ _ _ c.in_ok-check.ensures refl
