-- Demand 3 of a file: the law over its calls, read off what the file's read hands out.
use Rattle.numbers.proofs.Words.{ℕ, ◌+◌, arith, ◌≡◌, refl, sym, ap, subst, ◌∙◌, Bool, true, false, true≢false, not, List, [], ◌∷◌, ◌++◌, map, flat_map, length, length-append, eqb, eqb-true, not-false, pos, ◌+ℤ◌, ◌-ℤ◌, some, Every}
use Rattle.rules.specs.Answers.{FileAnswer}
use Rattle.rules.specs.declared.book.{Book.Book}
use Rattle.numbers.proofs.Tests.{or_left, or_right}
use Rattle.numbers.proofs.Lists.{empty}
use Rattle.numbers.proofs.Sums.{wholes}
use Rattle.numbers.proofs.Ranges.{sum_same}
use Rattle.rules.specs.Units.{worth}
use Rattle.rules.specs.Book.{held_sections, filed_notices}
use Rattle.rules.specs.Calls.{handed_out, new_section, with_section, section_answer, traded, trade_answer, session_answer, after_condition, condition_answer, after_notice, notice_answer, first}
use Rattle.rules.specs.Expiry.Call.{Lists, lines, after_expiry, expiry_refusals, expiry_answer, expiry_lists, day_last}
use Rattle.rules.specs.File.{Lent, read_whole, file_answer, file_lists}
use Rattle.rules.specs.History.{Single, section, trade, session, condition, notice, expiry, single, answer_of, book_after, Accepted, accepted, Trade, trade_of, trades, Session, session_of, sessions, Register, register_of, registers, holds, any_session, up_to_last, last_value, net, entered, register_lines, drawn_lots, Delivered, DemandThree, Holds, line_limit}
use Rattle.book_laws.proofs.Answers.{written, first_none}
use Rattle.book_laws.proofs.Blocks.{singles_history}
use Rattle.read_laws.specs.ReadCalls.{start_of, calls_of, AllAccepted, ReadByCalls, ReadIsCalls}
use Rattle.read_laws.specs.FileDemand.{accepted_in, FileHolds, FileDemand}
use Rattle.read_laws.proofs.Calls.{accepted_more, last_accepted, whole_sound, sums_handed, read_is_calls}
use Rattle.read_laws.proofs.Along.{longer_total}

-- a call that is no session counts its trade (01, Book, 1)
trades_counted : (b : Book) (c : Single) → (answer_of b c).number ≡ 0 → session_of b c ≡ [] → (answer_of b c).book.trades ≡ b.trades + length (trade_of b c)
unfolding answer_of session_of trade_of section_answer trade_answer session_answer condition_answer notice_answer expiry_answer with_section traded after_condition after_notice after_expiry
trades_counted b c e none = go c e none
  where
    by : {number : ℕ} (more : ℕ) (new : Book) → new.trades ≡ b.trades + more → number ≡ 0 → (handed_out number new b).trades ≡ b.trades + more
    by more new same e = ap (λ (d : Book). d.trades) (sym (written _ _ new b refl e)) ∙ same

    go : (c : Single) → (answer_of b c).number ≡ 0 → session_of b c ≡ [] → (answer_of b c).book.trades ≡ b.trades + length (trade_of b c)
    go (section settlement code participant seller) e none = by 0 (with_section b (new_section settlement code participant seller)) (omega arith) e
    go (trade buyer seller price lots) e none = by 1 (traded b buyer seller price lots) refl e
    go (session price list) e none = let never : ◌≡◌ {A = ℕ} 0 1 = cc in absurd (omega arith)
    go (condition i met) e none = by 0 (after_condition b i met) (omega arith) e
    go (notice i elevator lots) e none = by 0 (after_notice b i elevator lots) (omega arith) e
    go (expiry ls) e none = by 0 (after_expiry b) (omega arith) e

no_session : (ss : List Session) → some any_session ss ≡ false → ss ≡ []
unfolding some
no_session [] e = refl
no_session (s ∷ ss) e = absurd (true≢false e)

-- so after the last session the book counts the trades (01, Book, 1)
counted : (calls : List Single) (b : Book) → AllAccepted b calls → some (holds any_session) (accepted b calls) ≡ false → (book_after b calls).trades ≡ b.trades + length (trades (accepted b calls))
unfolding book_after AllAccepted accepted some flat_map
counted [] b all none = omega arith
counted (c ∷ cs) b all none =
    let new = (answer_of b c).book in
    let more = accepted_more b c cs all.0 in
    let later = accepted new cs in
    let none' = ap (some (holds any_session)) (sym more) ∙ none in
    omega (
      arith,
      counted cs new all.1 (or_right (some any_session (session_of b c)) (some (holds any_session) later) none'),
      trades_counted b c all.0 (no_session (session_of b c) (or_left (some any_session (session_of b c)) (some (holds any_session) later) none')),
      ap (λ (told : List Accepted). length (trades told)) more ∙ length-append (trade_of b c) (trades later),
    )

-- and where it counts none, every trade was before the last session
settled : (calls : List Single) (b : Book) → AllAccepted b calls → (book_after b calls).trades ≡ 0 → trades (up_to_last any_session (accepted b calls)) ≡ trades (accepted b calls)
unfolding book_after AllAccepted accepted up_to_last flat_map
settled [] b all none = refl
settled (c ∷ cs) b all none =
    let more = accepted_more b c cs all.0 in
    subst (λ (told : List Accepted). trades (up_to_last any_session told) ≡ trades told) (sym more)
    (go (settled cs (answer_of b c).book all.1 none) (some (holds any_session) (now ∷ later)) refl (λ t. empty _ (omega (arith, none, counted (c ∷ cs) b all (ap (some (holds any_session)) more ∙ t), ap (λ (told : List Accepted). length (trades told)) more))))
  where
    now : Accepted
    now = record { book = b; call = c }

    later : List Accepted
    later = accepted (answer_of b c).book cs

    go : trades (up_to_last any_session later) ≡ trades later → (t : Bool) → some (holds any_session) (now ∷ later) ≡ t → (some (holds any_session) (now ∷ later) ≡ false → trades (now ∷ later) ≡ []) → trades (up_to_last any_session (now ∷ later)) ≡ trades (now ∷ later)
    go rest true t nothing = rw (t, up_to_last) (ap (λ (ts : List Trade). trade_of b c ++ ts) rest)
    go rest false t nothing = rw (t, up_to_last) (sym (nothing t))

-- the register of the last call, where it is an expiry (01, Calls, 5)
accepted_last : (earlier : List Single) (b : Book) (c : Single) → AllAccepted b (earlier ++ (c ∷ [])) → accepted b (earlier ++ (c ∷ [])) ≡ accepted b earlier ++ (record { book = book_after b earlier; call = c } ∷ [])
unfolding accepted AllAccepted book_after
accepted_last [] b c all = accepted_more b c [] all.0
accepted_last (d ∷ ds) b c all =
    let new = (answer_of b d).book in
    accepted_more b d (ds ++ (c ∷ [])) all.0
    ∙ ap (λ (later : List Accepted). record { book = b; call = d } ∷ later) (accepted_last ds new c all.1)
    ∙ ap (λ (told : List Accepted). told ++ (record { book = book_after new ds; call = c } ∷ [])) (sym (accepted_more b d ds all.0))

every_right : {A : Type 0} (P : A → Type 0) (xs ys : List A) → Every P (xs ++ ys) → Every P ys
unfolding Every
every_right P [] ys h = h
every_right P (x ∷ xs) ys h = every_right P xs ys h.1

-- what an expiry leaves (01, Calls, 5 and 7; 02, a, 6)
abbrev expired_with : Book → Lists → Register
expired_with b ls = record { book = b; lists = expiry_lists b ls; formed = lines (held_sections b) (filed_notices b); lines = (expiry_answer b ls).lines; kept = (expiry_answer b ls).kept }

last_register : (P : Register → Type 0) (earlier : List Accepted) (b : Book) (ls : Lists) → Every P (registers (earlier ++ (record { book = b; call = expiry ls } ∷ []))) → P (expired_with b ls)
unfolding flat_map register_of Every
last_register P [] b ls h = h.0
last_register P (a ∷ later) b ls h = last_register P later b ls (every_right P (register_of a.book a.call) _ h)

-- the expired mark is nothing to what is delivered (01, Expiry call, 3)
abbrev marked : Register → Register
marked g = record { book = after_expiry g.book; lists = g.lists; formed = g.formed; lines = g.lines; kept = g.kept }

expired_delivered : (all : List Trade) (g : Register) → Delivered all g → Delivered all (marked g)
unfolding after_expiry register_lines drawn_lots line_limit
expired_delivered all g d =
    record {
      made_up = d.made_up;
      register_is = d.register_is;
      counted_all = d.counted_all;
      registered = d.registered;
      drawn_within = d.drawn_within;
      lines_within = d.lines_within;
    }

-- an accepted expiry was given a book with no trade since its session (01, Expiry call, 1)
no_trade_since : (b : Book) (ls : Lists) → first (expiry_refusals b ls) ≡ 0 → b.trades ≡ 0
unfolding expiry_refusals
no_trade_since b ls e =
    let open_book = first_none _ _ (omega arith) (first_none _ _ (omega arith) e).1 in
    let since = first_none _ _ (omega arith) open_book.1 in
    eqb-true _ _ (not-false _ (or_right (not (day_last b.last)) (not (eqb b.trades 0)) since.0))

module _ (three : DemandThree) (file : List ℕ) (lent : Lent) (e : (read_whole file lent).number ≡ 0) (earlier : List Single) (r : ReadByCalls file lent earlier) where
  abbrev start : Book
  start = start_of file

  abbrev told : List Accepted
  told = accepted_in file lent

  abbrev before : Book
  before = book_after start earlier

  all : AllAccepted start (earlier ++ (expiry lent.lists ∷ []))
  all = subst (AllAccepted start) r.named r.all_accepted

  expiry_accepted : first (expiry_refusals before lent.lists) ≡ 0
  unfolding answer_of expiry_answer
  expiry_accepted = last_accepted start earlier (expiry lent.lists) all

  book_is : (read_whole file lent).book ≡ after_expiry before
  unfolding file_answer expiry_answer
  book_is = ap (λ (a : FileAnswer). a.book) r.answer ∙ sym (written _ _ (after_expiry before) before refl expiry_accepted)

  three_holds : Holds told
  unfolding DemandThree
  three_holds = subst Holds (singles_history (calls_of file lent) start) (three _ _ _ r.opening (map single (calls_of file lent)))

  expired : Delivered (trades told) (expired_with before lent.lists)
  expired =
      let told_is = ap (accepted start) r.named ∙ accepted_last earlier start (expiry lent.lists) all in
      last_register (Delivered (trades told)) (accepted start earlier) before lent.lists
      (subst (λ (them : List Accepted). Every (Delivered (trades told)) (registers them)) told_is three_holds.delivered)

  all_settled : trades (up_to_last any_session told) ≡ trades told
  unfolding after_expiry
  all_settled =
      settled (calls_of file lent) start r.all_accepted
      (ap (λ (b : Book). b.trades) (sym r.book ∙ book_is) ∙ no_trade_since before lent.lists expiry_accepted)

  holds_of : (let run = read_whole file lent in FileHolds file lent (file_answer run) (file_lists run lent))
  unfolding file_answer after_expiry
  holds_of =
      let run = read_whole file lent in
      let s = whole_sound file lent e in
      record {
        calls = three_holds;
        sums_even = sum_same ◌+ℤ◌ (pos 0) wholes run.book.held _ _ (sums_handed file lent e) ∙ longer_total run.sums run.book.held s.short ∙ s.even;
        delivered =
            subst (Delivered (trades told))
            (λ k.
            record {
              book = sym book_is k;
              lists = sym r.lists k;
              formed = ap (λ (b : Book). lines (held_sections b) (filed_notices b)) (sym book_is) k;
              lines = sym (ap (λ (a : FileAnswer). a.lines) r.answer) k;
              kept = sym (ap (λ (a : FileAnswer). a.kept) r.answer) k;
            })
            (expired_delivered (trades told) (expired_with before lent.lists) expired);
        telescoped = λ i h.
            r.sums i h
            ∙ three_holds.telescoped i
            ∙ ap (λ (ts : List Trade). (worth (record { 0 = net ts i }) (last_value (sessions told))).0 -ℤ entered ts i) all_settled;
      }

-- Demand 3 holds of what an accepted read hands out, since it holds of its calls (demand 3.1; demand 3.2; demand 3.3; demand 3.4; demand 3.5; 01, Reading, 5).
pub file_demand : FileDemand
unfolding FileDemand ReadIsCalls
file_demand three file lent e = let (earlier, r) = read_is_calls file lent e in holds_of three file lent e earlier r
