-- 001's margins: after any list of calls, position·V less basis is what 001 has for the day so far, less its VM1 where the last session was a day session.
use Rattle.numbers.proofs.Words.{ℕ, arith, ◌≡◌, refl, sym, ap, ap₂, ◌∙◌, true, false, cond, List, [], ◌∷◌, flat_map, map, length, get_or-take, ℤ, pos, neg_ℤ, ◌+ℤ◌, ◌-ℤ◌, ◌*ℤ◌, +ℤ_assoc, +ℤ_idl, +ℤ_idr, neg_ℤ-+ℤ, zero-*ℤ, some, entry_ℤ, gathered, total_ℤ}
use Rattle.rules.specs.declared.{book.Book.Book, book.LastSession.LastSession, units.Kopecks.Kopecks}
use Rattle.rules.specs.declared.book.LastSession.TheVariants.{None, Day, Evening}
use Rattle.numbers.proofs.Sums.{wholes, exchange, total_joined, total_product, total_difference}
use Rattle.numbers.proofs.Whole.{ext, sum, difference, sum_product, product_difference}
use Rattle.rules.specs.Units.{worth}
use Rattle.rules.specs.Book.{opened, section_at, position_of, basis_of, value_at}
use Rattle.rules.specs.Calls.{opening_number, session_margins, margin_of, following}
use Rattle.rules.specs.Expiry.Call.{day_last}
use Rattle.rules.specs.History.{Single, answer_of, book_after_calls, Accepted, Trade, Session, trade_of, session_of, trades, sessions, holds, up_to_last, since_last, last_value, any_session, evening, sided, net, entered, rise, day_margin, specified, MarginsSpecified}
use Rattle.book_laws.proofs.Accepted as judged
use Rattle.book_laws.proofs.Margins.{margins_written}
use Rattle.book_laws.proofs.Effects.Session.{margin_at}
use Rattle.demand.proofs.Cut.{more, trades_more, value_more, up_to_held, up_to_other, since_held, since_other}
use Rattle.demand.proofs.Steps.{paid_to, Effect, settled_basis, effect}
use Rattle.demand.proofs.State.{Brings, paying, other, brings, Reached, opened_reached, reached_next}
use Rattle.demand.proofs.Run.{run}

-- what a day's trades pay to section i at a value: its lots in them at that value, less what they entered (001, 2.1.3)
abbrev today : ℕ → Kopecks → List Trade → ℤ
today i v ts = total_ℤ (map (λ (t : Trade). rise (sided i t) t.entry_value v) ts)

rises : (ts : List Trade) (i : ℕ) (v : Kopecks) → today i v ts ≡ (worth (record { 0 = net ts i }) v).0 -ℤ entered ts i
unfolding net entered worth
rises ts i v =
    let each : today i v ts ≡ total_ℤ (map (λ (t : Trade). sided i t *ℤ v.0 -ℤ sided i t *ℤ t.entry_value.0) ts) = λ k. total_ℤ (map (λ (t : Trade). product_difference (sided i t) v.0 t.entry_value.0 k) ts) in
    each
    ∙ total_difference (λ (t : Trade). sided i t *ℤ v.0) (λ (t : Trade). sided i t *ℤ t.entry_value.0) ts
    ∙ ap (λ (z : ℤ). z -ℤ total_ℤ (map (λ (t : Trade). sided i t *ℤ t.entry_value.0) ts)) (total_product (sided i) v.0 ts)

-- sums and differences in another order
later : (x y z : ℤ) → x +ℤ y -ℤ z ≡ x -ℤ z +ℤ y
later x y z = ext _ _ (omega (arith, sum x y, difference (x +ℤ y) z, difference x z, sum (x -ℤ z) y))

cancelled : (x y z : ℤ) → x -ℤ z -ℤ (y -ℤ z) ≡ x -ℤ y
cancelled x y z = ext _ _ (omega (arith, difference x z, difference y z, difference (x -ℤ z) (y -ℤ z), difference x y))

-- one accepted call more that holds no evening session
module _ (past : List Accepted) (b : Book) (c : Single) (i : ℕ) (v : Kopecks) where
  day_more : holds evening (record { book = b; call = c }) ≡ false → day_margin (more past b c) i v ≡ day_margin past i v +ℤ today i v (trade_of b c)
  unfolding day_margin
  day_more none =
      ap₂ (λ (up_to since : List Accepted). rise (net (trades up_to) i) (last_value (sessions up_to)) v +ℤ today i v (trades since)) (up_to_other evening _ none past) (since_other evening _ none past)
      ∙ ap (λ (z : ℤ). carried +ℤ z) (ap (today i v) (trades_more (since_last evening past) b c) ∙ total_joined ◌+ℤ◌ (pos 0) wholes _ (trades (since_last evening past)) (trade_of b c))
      ∙ sym (+ℤ_assoc carried (today i v (trades (since_last evening past))) (today i v (trade_of b c)))
    where
      carried : ℤ
      carried = rise (net (trades (up_to_last evening past)) i) (last_value (sessions (up_to_last evening past))) v

  -- and no session at all
  specified_more : (last : LastSession) → session_of b c ≡ [] → specified last (more past b c) i v ≡ specified last past i v +ℤ today i v (trade_of b c)
  unfolding specified some
  specified_more None none = day_more (ap (some evening) none)
  specified_more Evening none = day_more (ap (some evening) none)
  specified_more Day none =
      let morning = up_to_last any_session past in
      ap₂ (λ (z : ℤ) (up_to : List Accepted). z -ℤ day_margin up_to i (last_value (sessions up_to))) (day_more (ap (some evening) none)) (up_to_other any_session _ (ap (some any_session) none) past)
      ∙ later (day_margin past i v) (today i v (trade_of b c)) (day_margin morning i (last_value (sessions morning)))

-- at any value, a section's position less its basis is 001's margin (01, Session, 4; 001, 2.1.3)
abbrev Specified : Book → List Accepted → Type 0
Specified b past = (i : ℕ) (v : Kopecks) → margin_of v (section_at b i) ≡ specified b.last past i v

opened_specified : (lot w r : ℕ) → opening_number lot w r ≡ 0 → Specified (opened lot w r) []
unfolding margin_of worth specified day_margin up_to_last since_last flat_map net entered gathered
opened_specified lot w r e i v =
    let blank = opened_reached lot w r e in
    ap₂ (λ (p q : ℤ). p *ℤ v.0 -ℤ q) (sym (blank.nets i)) (sym (blank.bases i))
    ∙ ap (λ (z : ℤ). z -ℤ pos 0) (zero-*ℤ v.0)
    ∙ sym (ap (λ (z : ℤ). z +ℤ pos 0) (zero-*ℤ (v.0 -ℤ (last_value []).0)))

module _ (b : Book) (past : List Accepted) (was : Reached b past) (told : Specified b past) (c : Single) (accepts : (answer_of b c).number ≡ 0) (i : ℕ) (v : Kopecks) where
  abbrev new : Book
  new = (answer_of b c).book

  abbrev calls : List Accepted
  calls = more past b c

  abbrev position : ℤ
  position = position_of (section_at b i)

  done : Effect b new (trade_of b c) (session_of b c)
  done = effect b was.book c accepts

  -- a call that brings no session: the margin moves by what its trade pays
  margin_more : session_of b c ≡ [] → margin_of v (section_at new i) ≡ margin_of v (section_at b i) +ℤ today i v (trade_of b c)
  unfolding margin_of worth gathered
  margin_more none =
      let basis = basis_of (section_at b i) in
      let lots = net (trade_of b c) i in
      let entries = entered (trade_of b c) i in
      ap₂ (λ (p q : ℤ). p *ℤ v.0 -ℤ q) (done.positions i) (done.bases i ∙ ap (λ (z : ℤ). basis +ℤ z) (ap (λ (ss : List Session). paid_to i ss +ℤ entries) none ∙ +ℤ_idl entries))
      ∙ ap₂ ◌+ℤ◌ (sum_product position lots v.0) (neg_ℤ-+ℤ basis entries)
      ∙ exchange ◌+ℤ◌ (pos 0) wholes (position *ℤ v.0) (lots *ℤ v.0) (neg_ℤ basis) (neg_ℤ entries)
      ∙ ap (λ (z : ℤ). margin_of v (section_at b i) +ℤ z) (sym (rises (trade_of b c) i v))

  -- a session: from then on the lots of all trades rise from its value
  module _ (s : Session) (one : session_of b c ≡ s ∷ []) (none : trade_of b c ≡ []) where
    abbrev lots : ℤ
    lots = net (trades calls) i

    margin_since : margin_of v (section_at new i) ≡ rise lots s.value v
    unfolding margin_of worth
    margin_since =
        let after = position_of (section_at new i) in
        ap (λ (z : ℤ). after *ℤ v.0 -ℤ z) (settled_basis done s one i)
        ∙ sym (product_difference after v.0 s.value.0)
        ∙ ap (λ (z : ℤ). rise z s.value v) (sym ((reached_next b past was c accepts).nets i))

    -- an evening session ends the day: from it on all lots are carried (001, 2.1.3)
    evening_ends : s.evening ≡ true → rise lots s.value v ≡ day_margin calls i v
    unfolding day_margin some flat_map gathered
    evening_ends e =
        let held : holds evening (record { book = b; call = c }) ≡ true = ap (some evening) one ∙ rw e refl in
        rw (up_to_held evening _ held past, since_held evening _ held past, value_more past b c s one) (sym (+ℤ_idr (rise lots s.value v)))

    -- after a day session its VM1 is taken off: VM2 = VM less VM1 (001, 2.1.3)
    day_ends : s.evening ≡ false → ((x : Kopecks) → margin_of x (section_at b i) ≡ day_margin past i x) → rise lots s.value v ≡ specified Day calls i v
    unfolding specified margin_of worth net some gathered
    day_ends e was-told =
        let basis = basis_of (section_at b i) in
        let same : lots ≡ position = (reached_next b past was c accepts).nets i ∙ done.positions i ∙ ap (λ (ts : List Trade). position +ℤ net ts i) none ∙ +ℤ_idr position in
        let each : (x : Kopecks) → day_margin calls i x ≡ margin_of x (section_at b i) =
        λ x. day_more past b c i x (ap (some evening) one ∙ rw e refl) ∙ ap₂ (λ (z : ℤ) (ts : List Trade). z +ℤ today i x ts) (sym (was-told x)) none ∙ +ℤ_idr (margin_of x (section_at b i))
        in
        ap (λ (z : ℤ). rise z s.value v) same
        ∙ product_difference position v.0 s.value.0
        ∙ sym (cancelled (position *ℤ v.0) (position *ℤ s.value.0) basis)
        ∙ sym (ap₂ ◌-ℤ◌ (each v) (ap (λ (up_to : List Accepted). day_margin up_to i (last_value (sessions up_to))) (up_to_held any_session _ (ap (some any_session) one) past) ∙ ap (day_margin calls i) (value_more past b c s one) ∙ each s.value))

    turned : (last : LastSession) → s.evening ≡ day_last last → ((x : Kopecks) → margin_of x (section_at b i) ≡ specified last past i x) → rise lots s.value v ≡ specified (following last) calls i v
    unfolding specified
    turned None kind was-told = day_ends kind was-told
    turned Day kind was-told = evening_ends kind
    turned Evening kind was-told = day_ends kind was-told

  specified_next : Brings b c → margin_of v (section_at new i) ≡ specified new.last calls i v
  unfolding some
  specified_next (other none) =
      margin_more none
      ∙ ap (λ (z : ℤ). z +ℤ today i v (trade_of b c)) (told i v)
      ∙ sym (specified_more past b c i v b.last none)
      ∙ ap (λ (last : LastSession). specified last calls i v) (sym (done.last ∙ ap (λ (ss : List Session). cond (some any_session ss) (following b.last) b.last) none))
  specified_next (paying s one none kind) =
      margin_since s one none
      ∙ turned s one none b.last kind (told i)
      ∙ ap (λ (last : LastSession). specified last calls i v) (sym (done.last ∙ ap (λ (ss : List Session). cond (some any_session ss) (following b.last) b.last) one))

-- what a list of calls reaches, with its margins
record Stands (b : Book) (past : List Accepted) : Type 0 where
  reached : Reached b past
  told : Specified b past

-- an accepted session's margin of each section held is 001's, after any list of calls (01, Session, 4; 001, 2.1.3; demand 2)
pub margins_specified : MarginsSpecified
unfolding MarginsSpecified
margins_specified lot w r e calls price list i accepts held =
    let b = book_after_calls (opened lot w r) calls in
    let after = run Stands (λ d past was c ok. record { reached = reached_next d past was.reached c ok; told = λ j v. specified_next d past was.reached was.told c ok j v (brings d c) }) calls (opened lot w r) [] (record { reached = opened_reached lot w r e; told = opened_specified lot w r e }) in
    sym (get_or-take b.held (session_margins b price list) i (pos 0) held)
    ∙ ap (λ (ms : List ℤ). entry_ℤ ms i) (margins_written b price list accepts)
    ∙ margin_at b price (judged.session b price (length list) accepts).book i held
    ∙ after.told i (value_at b price)
