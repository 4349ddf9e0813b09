-- Demand 3, the one theorem over every list of calls.
use Rattle.numbers.proofs.Words.{◌≡◌, refl, sym, ap, subst, ◌∙◌, false, true≢false, List, [], ◌++◌, flat_map, Every}
use Rattle.rules.specs.declared.book.{Book.Book}
use Rattle.rules.specs.Book.{opened}
use Rattle.rules.specs.Expiry.Call.{expiry_answer, after_expiry}
use Rattle.rules.specs.History.{Single, section, trade, session, condition, notice, expiry, answer_of, Accepted, Register, register_of, trades, registers, Delivered, DemandThree}
use Rattle.book_laws.proofs.Answers.{written}
use Rattle.demand.proofs.Cut.{more, registers_more}
use Rattle.book_laws.proofs.Accepted.{running}
use Rattle.demand.proofs.Run.{run}
use Rattle.demand.proofs.State.{Reached, opened_reached, reached_next}
use Rattle.demand.proofs.Delivers.{delivers}

-- what a list of calls reaches, and what its expiry delivers; a book that has not expired has seen none (demand 3.2; 01, Expiry call, 3)
record Stands (b : Book) (past : List Accepted) : Type 0 where
  reached : Reached b past
  delivered : Every (Delivered (trades past)) (registers past)
  none : b.expired ≡ false → registers past ≡ []

-- the register of one call: only an expiry has one, and it ends the book
record Ends (b : Book) (calls : List Accepted) (c : Single) (new : Book) : Type 0 where
  delivered : Every (Delivered (trades calls)) (register_of b c)
  none : new.expired ≡ false → register_of b c ≡ []

ends : (b : Book) (past : List Accepted) → Reached b past → (c : Single) → (answer_of b c).number ≡ 0 → Ends b (more past b c) c (answer_of b c).book
unfolding register_of answer_of expiry_answer after_expiry Every
ends b past was (section settlement code participant seller) e = record { delivered = tt; none = λ not_yet. refl }
ends b past was (trade buyer seller price lots) e = record { delivered = tt; none = λ not_yet. refl }
ends b past was (session price list) e = record { delivered = tt; none = λ not_yet. refl }
ends b past was (condition i met) e = record { delivered = tt; none = λ not_yet. refl }
ends b past was (notice i elevator lots) e = record { delivered = tt; none = λ not_yet. refl }
ends b past was (expiry ls) e =
    let after = written _ _ (after_expiry b) b refl e in
    let then : Reached (after_expiry b) (more past b (expiry ls)) = subst (λ (new : Book). Reached new (more past b (expiry ls))) (sym after) (reached_next b past was (expiry ls) e) in
    record {
      delivered = (delivers b ls (trades (more past b (expiry ls))) was.book e then.nets, tt);
      none = λ not_yet. absurd (true≢false (ap (λ (new : Book). new.expired) after ∙ not_yet));
    }

next : (b : Book) (past : List Accepted) → Stands b past → (c : Single) → (answer_of b c).number ≡ 0 → Stands (answer_of b c).book (more past b c)
next b past was c e =
    let end = ends b past was.reached c e in
    let last : registers (more past b c) ≡ register_of b c = registers_more past b c ∙ ap (λ (gs : List Register). gs ++ register_of b c) (was.none (running b c e)) in
    record {
      reached = reached_next b past was.reached c e;
      delivered = subst (Every (Delivered (trades (more past b c)))) (sym last) end.delivered;
      none = λ not_yet. last ∙ end.none not_yet;
    }

-- for every list of calls from the book of an accepted opening (demand 3; 01, Calls, 1 and 2)
pub demand_three : DemandThree
unfolding DemandThree flat_map Every
demand_three lot w r e calls =
    let all = run Stands next calls (opened lot w r) [] (record { reached = opened_reached lot w r e; delivered = tt; none = λ not_yet. refl }) in
    record { sessions_even = all.reached.even; delivered = all.delivered; telescoped = all.reached.settled }
