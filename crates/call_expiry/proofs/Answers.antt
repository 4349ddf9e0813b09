-- What an accepted expiry says of its lists.
use Rattle.numbers.proofs.Words.{arith, ◌≡◌, ltb-false, some}
use Rattle.numbers.specs.Lists.{shorter}
use Rattle.numbers.proofs.Tests.{or_left, or_right}
use Rattle.rules.specs.declared.book.{Book.Book}
use Rattle.rules.specs.Calls.{first}
use Rattle.rules.specs.Expiry.Call.{Lists, expiry_refusals}
use Rattle.book_laws.proofs.Answers.{first_none}
use Rattle.method_delivery.specs.Lent.{Room}

module _ (b : Book) (ls : Lists) where
  -- no list is too short for an accepted expiry (01, Expiry call, 1)
  pub room_of : first (expiry_refusals b ls) ≡ 0 → Room b ls
  unfolding expiry_refusals some
  room_of e =
      let day = first_none _ _ (omega arith) (first_none _ _ (omega arith) (first_none _ _ (omega arith) e).1).1 in
      let register = first_none _ _ (omega arith) day.1 in
      let sections = first_none _ _ (omega arith) register.1 in
      let two = or_right (shorter 382 ls.buyers) _ register.0 in
      let three = or_right (shorter 382 ls.elevators) _ two in
      let four = or_right (shorter 382 ls.sellers) _ three in
      let later = or_right (shorter b.held ls.delivered) _ sections.0 in
      let last = or_right (shorter b.held ls.terminated) _ later in
      record {
        buyers_room = ltb-false _ _ (or_left (shorter 382 ls.buyers) _ register.0);
        elevators_room = ltb-false _ _ (or_left (shorter 382 ls.elevators) _ two);
        sellers_room = ltb-false _ _ (or_left (shorter 382 ls.sellers) _ three);
        lots_room = ltb-false _ _ (or_left (shorter 382 ls.lots) _ four);
        delivered_room = ltb-false _ _ (or_left (shorter b.held ls.delivered) _ sections.0);
        terminated_room = ltb-false _ _ (or_left (shorter b.held ls.terminated) _ later);
        lapsed_room = ltb-false _ _ (or_left (shorter b.held ls.lapsed) _ last);
      }
