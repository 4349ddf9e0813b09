-- What an accepted call says of its book and its inputs: none of the conditions that would refuse it holds (demand 1).
use Rattle.numbers.proofs.Words.{ℕ, ◌≤◌, ◌<◌, ◌%◌, arith, ◌≡◌, refl, true, false, List, eqb, length, pos, neg_ℤ, nat_abs, ◌+ℤ◌, leb-true, leb-false, le-ltb, ltb-false, eqb-true, eqb-false, not-false, between, every}
use Rattle.rules.specs.declared.book.{Book.Book}
use Rattle.numbers.proofs.Tests.{both, or_left, or_right}
use Rattle.rules.specs.Book.{lot_good, steps_good, factor_good, section_code_good, section_at, position_of, held_sections, filed_notices}
use Rattle.rules.specs.Calls.{first, unknown, opening_number, section_number, section_code_held, trade_number, party_refusals, size_refusals, room_refusals, exceeds, session_number, condition_number, notice_number, notice_filed, section_answer, trade_answer, session_answer, condition_answer, notice_answer}
use Rattle.rules.specs.Expiry.Call.{expiry_refusals, expiry_answer}
use Rattle.rules.specs.History.{Single, answer_of}
use Rattle.rules.specs.History as call
use Rattle.book_laws.proofs.Answers.{first_none, first_none_append, numbered}
use Rattle.book_laws.proofs.Good.{Between, Good, facts, between_facts}

pub opening : (lot w r : ℕ) → opening_number lot w r ≡ 0 → (lot_good lot ≡ true) × (steps_good w r ≡ true) × (factor_good w r ≡ true)
unfolding opening_number
opening lot w r e =
    let a = first_none _ _ (omega arith) e in
    let b = first_none _ _ (omega arith) a.1 in
    let c = first_none _ _ (omega arith) b.1 in
    (not-false _ a.0, not-false _ b.0, not-false _ c.0)

pub record NewSection (b : Book) (number : ℕ) (code : List ℕ) : Type 0 where
  pub book : Good b
  pub running : b.expired ≡ false
  pub settlement : number ≤ 63
  pub allowed : section_code_good code ≡ true
  pub fresh : section_code_held code (held_sections b) ≡ false
  pub room : b.held < 128

pub section : (b : Book) (number : ℕ) (code : List ℕ) → section_number b number code ≡ 0 → NewSection b number code
unfolding section_number
section b number code e =
    let book = first_none _ _ (omega arith) e in
    let running = first_none _ _ (omega arith) book.1 in
    let settlement = first_none _ _ (omega arith) running.1 in
    let allowed = first_none _ _ (omega arith) settlement.1 in
    let fresh = first_none _ _ (omega arith) allowed.1 in
    let room = first_none _ _ (omega arith) fresh.1 in
    record {
      book = facts b (not-false _ book.0);
      running = running.0;
      settlement = ltb-false _ _ settlement.0;
      allowed = not-false _ allowed.0;
      fresh = fresh.0;
      room = leb-false _ _ room.0;
    }

-- a trade, by the three groups of its refusals
pub record Parties (b : Book) (buyer seller : ℕ) : Type 0 where
  pub book : Good b
  pub running : b.expired ≡ false
  pub buyer_known : buyer < b.held
  pub seller_known : seller < b.held
  pub apart : buyer ≡ seller → ⊥

pub parties : (b : Book) (buyer seller : ℕ) → first (party_refusals b buyer seller) ≡ 0 → Parties b buyer seller
unfolding party_refusals
parties b buyer seller e =
    let book = first_none _ _ (omega arith) e in
    let running = first_none _ _ (omega arith) book.1 in
    let known = first_none _ _ (omega arith) running.1 in
    let apart = first_none _ _ (omega arith) known.1 in
    record {
      book = facts b (not-false _ book.0);
      running = running.0;
      buyer_known = leb-false _ _ (or_left (unknown b buyer) (unknown b seller) known.0);
      seller_known = leb-false _ _ (or_right (unknown b buyer) (unknown b seller) known.0);
      apart = eqb-false _ _ apart.0;
    }

pub record Sizes (r price lots : ℕ) : Type 0 where
  pub price_range : Between 1 10_000_000 price
  pub multiple : price % r ≡ 0
  pub lots_range : Between 1 10_000 lots

pub sizes : (r price lots : ℕ) → first (size_refusals r price lots) ≡ 0 → Sizes r price lots
unfolding size_refusals
sizes r price lots e =
    let cost = first_none _ _ (omega arith) e in
    let size = first_none _ _ (omega arith) cost.1 in
    let price_good_lem = both (between 1 10_000_000 price) (eqb (price % r) 0) (not-false _ cost.0) in
    record {
      price_range = between_facts 1 10_000_000 price price_good_lem.0;
      multiple = eqb-true _ _ price_good_lem.1;
      lots_range = between_facts 1 10_000 lots (not-false _ size.0);
    }

pub record Room (b : Book) (buyer seller lots : ℕ) : Type 0 where
  pub buyer_within : nat_abs (position_of (section_at b buyer) +ℤ pos lots) ≤ 1_000_000
  pub seller_within : nat_abs (position_of (section_at b seller) +ℤ neg_ℤ (pos lots)) ≤ 1_000_000
  pub trades : b.trades < 2_000

pub room : (b : Book) (buyer seller lots : ℕ) → first (room_refusals b buyer seller lots) ≡ 0 → Room b buyer seller lots
unfolding room_refusals
room b buyer seller lots e =
    let limits = first_none _ _ (omega arith) e in
    let trades = first_none _ _ (omega arith) limits.1 in
    let within_limits = limits.0 in
    record {
      buyer_within = leb-true _ _ (not-false _ (or_left (exceeds (section_at b buyer) (pos lots)) (exceeds (section_at b seller) (neg_ℤ (pos lots))) within_limits));
      seller_within = leb-true _ _ (not-false _ (or_right (exceeds (section_at b buyer) (pos lots)) (exceeds (section_at b seller) (neg_ℤ (pos lots))) within_limits));
      trades = leb-false _ _ trades.0;
    }

pub parties_numbered : (b : Book) (buyer seller : ℕ) → numbered (party_refusals b buyer seller) ≡ true
unfolding numbered every party_refusals
parties_numbered b buyer seller = refl

pub sizes_numbered : (r price lots : ℕ) → numbered (size_refusals r price lots) ≡ true
unfolding numbered every size_refusals
sizes_numbered r price lots = refl

pub record NewTrade (b : Book) (buyer seller price lots : ℕ) : Type 0 where
  pub party : Parties b buyer seller
  pub size : Sizes b.r price lots
  pub room : Room b buyer seller lots

pub trade : (b : Book) (buyer seller price lots : ℕ) → trade_number b buyer seller price lots ≡ 0 → NewTrade b buyer seller price lots
unfolding trade_number
trade b buyer seller price lots e =
    let party = first_none_append (party_refusals b buyer seller) _ (parties_numbered b buyer seller) e in
    let size = first_none_append (size_refusals b.r price lots) _ (sizes_numbered b.r price lots) party.1 in
    record {
      party = parties b buyer seller party.0;
      size = sizes b.r price lots size.0;
      room = room b buyer seller lots size.1;
    }

pub record NewSession (b : Book) (price room : ℕ) : Type 0 where
  pub book : Good b
  pub running : b.expired ≡ false
  pub price_range : Between 1 10_000_000 price
  pub places : b.held ≤ room

-- a session is judged alike with any list that is long enough (01, Session, 1)
pub session_room : (b : Book) (price room more : ℕ) → b.held ≤ room → b.held ≤ more → session_number b price room ≡ session_number b price more
unfolding session_number
session_room b price room more h k = rw (le-ltb room b.held h, le-ltb more b.held k)

pub session : (b : Book) (price room : ℕ) → session_number b price room ≡ 0 → NewSession b price room
unfolding session_number
session b price room e =
    let book = first_none _ _ (omega arith) e in
    let running = first_none _ _ (omega arith) book.1 in
    let cost = first_none _ _ (omega arith) running.1 in
    let places = first_none _ _ (omega arith) cost.1 in
    record {
      book = facts b (not-false _ book.0);
      running = running.0;
      price_range = between_facts 1 10_000_000 price (not-false _ cost.0);
      places = ltb-false _ _ places.0;
    }

pub record NewCondition (b : Book) (i : ℕ) : Type 0 where
  pub book : Good b
  pub running : b.expired ≡ false
  pub known : i < b.held

pub condition : (b : Book) (i : ℕ) → condition_number b i ≡ 0 → NewCondition b i
unfolding condition_number
condition b i e =
    let book = first_none _ _ (omega arith) e in
    let running = first_none _ _ (omega arith) book.1 in
    let known = first_none _ _ (omega arith) running.1 in
    record { book = facts b (not-false _ book.0); running = running.0; known = leb-false _ _ known.0 }

pub record NewNotice (b : Book) (i elevator lots : ℕ) : Type 0 where
  pub book : Good b
  pub running : b.expired ≡ false
  pub known : i < b.held
  pub elevator_range : elevator ≤ 31
  pub lots_range : Between 1 1_000_000 lots
  pub fresh : notice_filed i elevator (filed_notices b) ≡ false
  pub room : b.filed < 256

pub notice : (b : Book) (i elevator lots : ℕ) → notice_number b i elevator lots ≡ 0 → NewNotice b i elevator lots
unfolding notice_number
notice b i elevator lots e =
    let book = first_none _ _ (omega arith) e in
    let running = first_none _ _ (omega arith) book.1 in
    let known = first_none _ _ (omega arith) running.1 in
    let place = first_none _ _ (omega arith) known.1 in
    let size = first_none _ _ (omega arith) place.1 in
    let fresh = first_none _ _ (omega arith) size.1 in
    let room = first_none _ _ (omega arith) fresh.1 in
    record {
      book = facts b (not-false _ book.0);
      running = running.0;
      known = leb-false _ _ known.0;
      elevator_range = ltb-false _ _ place.0;
      lots_range = between_facts 1 1_000_000 lots (not-false _ size.0);
      fresh = fresh.0;
      room = leb-false _ _ room.0;
    }

-- any accepted call was given a book that has not expired (01, Section, 1; 01, Expiry call, 3)
pub running : (b : Book) (c : Single) → (answer_of b c).number ≡ 0 → b.expired ≡ false
unfolding answer_of section_answer trade_answer session_answer condition_answer notice_answer expiry_answer expiry_refusals
running b (call.section settlement code participant seller) e = (section b settlement code e).running
running b (call.trade buyer seller price lots) e = (trade b buyer seller price lots e).party.running
running b (call.session price list) e = (session b price (length list) e).running
running b (call.condition i met) e = (condition b i e).running
running b (call.notice i elevator lots) e = (notice b i elevator lots e).running
running b (call.expiry ls) e = (first_none _ _ (omega arith) (first_none _ _ (omega arith) e).1).0
