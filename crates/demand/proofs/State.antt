-- Where a list of calls stands: what its accepted calls say of the book that they leave. An opened book has no trade and no margin, and each accepted call takes this on.
use Rattle.numbers.proofs.Words.{ℕ, zero-le, ◌≡◌, refl, sym, ap, ap₂, ◌∙◌, true, List, [], ◌∷◌, ◌++◌, append-nil, flat_map, ℤ, pos, ◌+ℤ◌, ◌-ℤ◌, +ℤ-neg_ℤ_cancel, some, Every, gathered, total_ℤ}
use Rattle.rules.specs.declared.{book.Book.Book}
use Rattle.numbers.proofs.Sums.{wholes, exchange, total_joined}
use Rattle.rules.specs.Units.{worth}
use Rattle.rules.specs.Book.{good, opened, section_at, position_of, basis_of}
use Rattle.rules.specs.Calls.{opening_number}
use Rattle.rules.specs.Expiry.Call.{day_last}
use Rattle.rules.specs.History.{Single, section, trade, session, condition, notice, expiry, answer_of, Accepted, Trade, Session, trade_of, session_of, trades, sessions, up_to_last, last_value, any_session, sided, net, entered}
use Rattle.book_laws.proofs.Good.{facts}
use Rattle.book_laws.proofs.Blank.{rest_read}
use Rattle.book_laws.proofs.Kept.Opening.{opening_kept}
use Rattle.demand.proofs.Cut.{more, trades_more, sessions_more, value_more, up_to_held, up_to_other}
use Rattle.demand.proofs.Steps.{paid_to, Effect, settled_basis, effect}

-- a call brings one session and no trade, or no session
pub data Brings (b : Book) (c : Single) : Type 0 where
  paying : (s : Session) → session_of b c ≡ s ∷ [] → trade_of b c ≡ [] → s.evening ≡ day_last b.last → Brings b c
  other : session_of b c ≡ [] → Brings b c

pub brings : (b : Book) (c : Single) → Brings b c
unfolding session_of trade_of
brings b (section settlement code participant seller) = other refl
brings b (trade buyer seller price lots) = other refl
brings b (session price list) = paying _ refl refl refl
brings b (condition i met) = other refl
brings b (notice i elevator lots) = other refl
brings b (expiry ls) = other refl

-- a section's net up to the last session at that session's value, less its entry values (demand 3.5; 01, Calls, 10)
abbrev owed : List Accepted → ℕ → ℤ
owed calls i = let settled = trades (up_to_last any_session calls) in (worth (record { 0 = net settled i }) (last_value (sessions calls))).0 -ℤ entered settled i

-- positions are nets, bases are margins and entries together, and the margins are what is owed (demand 3.1 and 3.5; 01, Book, 3)
pub record Reached (b : Book) (past : List Accepted) : Type 0 where
  pub book : good b ≡ true
  pub nets : (i : ℕ) → net (trades past) i ≡ position_of (section_at b i)
  pub bases : (i : ℕ) → paid_to i (sessions past) +ℤ entered (trades past) i ≡ basis_of (section_at b i)
  pub even : Every (λ (s : Session). total_ℤ s.margins ≡ pos 0) (sessions past)
  pub settled : (i : ℕ) → paid_to i (sessions past) ≡ owed past i

pub opened_reached : (lot w r : ℕ) → opening_number lot w r ≡ 0 → Reached (opened lot w r) []
unfolding flat_map up_to_last last_value net entered gathered worth Every
opened_reached lot w r e =
    let book = opening_kept lot w r e in
    record {
      book = book;
      nets = λ i. sym (rest_read (opened lot w r) (facts _ book) i zero-le position_of refl);
      bases = λ i. sym (rest_read (opened lot w r) (facts _ book) i zero-le basis_of refl);
      even = tt;
      settled = λ i. refl;
    }

-- sums over the trades of two lists
pub net_joined : (ts us : List Trade) (i : ℕ) → net (ts ++ us) i ≡ net ts i +ℤ net us i
unfolding net
net_joined ts us i = total_joined ◌+ℤ◌ (pos 0) wholes (sided i) ts us

pub entered_joined : (ts us : List Trade) (i : ℕ) → entered (ts ++ us) i ≡ entered ts i +ℤ entered us i
unfolding entered
entered_joined ts us i = total_joined ◌+ℤ◌ (pos 0) wholes (λ (t : Trade). (worth (record { 0 = sided i t }) t.entry_value).0) ts us

-- a property of every entry of two lists is one of every entry of both
every_append : {A : Type 0} (P : A → Type 0) (xs ys : List A) → Every P xs → Every P ys → Every P (xs ++ ys)
unfolding Every
every_append P [] ys h k = k
every_append P (x ∷ xs) ys h k = (h.0, every_append P xs ys h.1 k)

module _ (b : Book) (past : List Accepted) (was : Reached b past) (c : Single) (accepted : (answer_of b c).number ≡ 0) where
  abbrev new : Book
  new = (answer_of b c).book

  abbrev calls : List Accepted
  calls = more past b c

  done : Effect b new (trade_of b c) (session_of b c)
  done = effect b was.book c accepted

  nets : (i : ℕ) → net (trades calls) i ≡ position_of (section_at new i)
  nets i = ap (λ (ts : List Trade). net ts i) (trades_more past b c) ∙ net_joined (trades past) (trade_of b c) i ∙ ap (λ (z : ℤ). z +ℤ net (trade_of b c) i) (was.nets i) ∙ sym (done.positions i)

  bases : (i : ℕ) → paid_to i (sessions calls) +ℤ entered (trades calls) i ≡ basis_of (section_at new i)
  bases i =
      ap₂ (λ (ss : List Session) (ts : List Trade). paid_to i ss +ℤ entered ts i) (sessions_more past b c) (trades_more past b c)
      ∙ ap₂ ◌+ℤ◌ (total_joined ◌+ℤ◌ (pos 0) wholes _ (sessions past) (session_of b c)) (entered_joined (trades past) (trade_of b c) i)
      ∙ exchange ◌+ℤ◌ (pos 0) wholes (paid_to i (sessions past)) (paid_to i (session_of b c)) (entered (trades past) i) (entered (trade_of b c) i)
      ∙ ap (λ (z : ℤ). z +ℤ (paid_to i (session_of b c) +ℤ entered (trade_of b c) i)) (was.bases i)
      ∙ sym (done.bases i)

  settled : (i : ℕ) → Brings b c → paid_to i (sessions calls) ≡ owed calls i
  unfolding some
  settled i (other none) =
      let same : sessions calls ≡ sessions past = sessions_more past b c ∙ ap (λ (ss : List Session). sessions past ++ ss) none ∙ append-nil (sessions past) in
      rw (same, up_to_other any_session _ (ap (some any_session) none) past) (was.settled i)
  settled i (paying s one none kind) =
      rw (up_to_held any_session _ (ap (some any_session) one) past, value_more past b c s one)
      (sym (+ℤ-neg_ℤ_cancel (paid_to i (sessions calls)) (entered (trades calls) i))
      ∙ ap (λ (z : ℤ). z -ℤ entered (trades calls) i) (bases i ∙ settled_basis done s one i ∙ ap (λ (z : ℤ). (worth (record { 0 = z }) s.value).0) (sym (nets i))))

  pub reached_next : Reached new calls
  reached_next =
      record {
        book = done.book;
        nets = nets;
        bases = bases;
        even = rw (sessions_more past b c) (every_append _ (sessions past) (session_of b c) was.even done.even);
        settled = λ i. settled i (brings b c);
      }
