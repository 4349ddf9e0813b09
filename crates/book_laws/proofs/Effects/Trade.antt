-- What a trade does, by section number.
use Rattle.numbers.proofs.Words.{ℕ, ◌+◌, ◌≤◌, zero-le, arith, ◌≡◌, refl, sym, ap, ◌∙◌, Bool, true, false, cond, [], eqb, set, lt-length-set, get_or-set_same, get_or-set_other, ℤ, pos, neg_ℤ, nat_abs, ◌+ℤ◌, +ℤ_idl, +ℤ_idr, +ℤ_invr, zero-*ℤ, eqb-true, eqb-false}
use Rattle.rules.specs.declared.{book.Book.Book, book.Section.Section, units.Kopecks.Kopecks}
use Rattle.rules.specs.Units.{worth}
use Rattle.rules.specs.Book.{position_of, basis_of, section_at, section_of_noughts, value_at}
use Rattle.rules.specs.Calls.{moved, traded}
use Rattle.rules.specs.History.{Trade, sided}
use Rattle.book_laws.proofs.Accepted.{NewTrade}
use Rattle.book_laws.proofs.Held.{held_place}
use Rattle.book_laws.proofs.Lots.{sold_size}
use Rattle.book_laws.proofs.Effects.Same.{SameTerms, SameNotices, SameHolder, holder_by}

-- the trade as a list of calls has it: its lots on the side of section i are `sided i` of it (01, Book, 3)
abbrev pub trade_for : Book → ℕ → ℕ → ℕ → ℕ → Trade
trade_for b buyer seller price lots = record { buyer = buyer; seller = seller; lots = lots; entry_value = value_at b price }

pub side_within : (t : Trade) → t.lots ≤ 10_000 → (i : ℕ) → nat_abs (sided i t) ≤ 10_000
side_within t few i = go (eqb i t.buyer) (eqb i t.seller)
  where
    go : (is_buyer is_seller : Bool) → nat_abs (cond is_buyer (pos t.lots) (pos 0) +ℤ cond is_seller (neg_ℤ (pos t.lots)) (pos 0)) ≤ 10_000
    go true true = rw (+ℤ_invr (pos t.lots)) zero-le
    go true false = omega arith
    go false true = rw (+ℤ_idl (neg_ℤ (pos t.lots))) (sold_size t.lots few)
    go false false = zero-le

-- no lots move nothing
moved_none : (s : Section) (v : Kopecks) → moved s (record { 0 = pos 0 }) v ≡ s
unfolding moved worth
moved_none s v =
    let position = +ℤ_idr (position_of s) in
    let basis = ap (λ (z : ℤ). basis_of s +ℤ z) (zero-*ℤ v.0) ∙ +ℤ_idr (basis_of s) in
    λ i.
    record {
      settlement = s.settlement;
      code = s.code;
      participant = s.participant;
      seller = s.seller;
      met = s.met;
      position = record { 0 = position i };
      basis = record { 0 = basis i };
    }

module _ (b : Book) (buyer seller price lots : ℕ) where
  pub trade_other : (i : ℕ) → (i ≡ buyer → ⊥) → (i ≡ seller → ⊥) → section_at (traded b buyer seller price lots) i ≡ section_at b i
  unfolding traded
  trade_other i not-buyer not_seller = rw (get_or-set_other, get_or-set_other)

  pub trade_buyer : NewTrade b buyer seller price lots → section_at (traded b buyer seller price lots) buyer ≡ moved (section_at b buyer) (record { 0 = pos lots }) (value_at b price)
  unfolding traded
  trade_buyer call =
      let place = held_place b call.party.book buyer call.party.buyer_known in
      let not_seller = call.party.apart in
      rw (get_or-set_other, get_or-set_same)

  pub trade_seller : NewTrade b buyer seller price lots → section_at (traded b buyer seller price lots) seller ≡ moved (section_at b seller) (record { 0 = neg_ℤ (pos lots) }) (value_at b price)
  unfolding traded
  trade_seller call =
      get_or-set_same (set b.sections buyer (moved (section_at b buyer) (record { 0 = pos lots }) (value_at b price))) seller _ (section_of_noughts [])
      (lt-length-set b.sections buyer _ (held_place b call.party.book seller call.party.seller_known))

  -- all three in one: section i moves by the lots on its side (01, Book, 3)
  pub trade_section : NewTrade b buyer seller price lots → (i : ℕ) → section_at (traded b buyer seller price lots) i ≡ moved (section_at b i) (record { 0 = sided i (trade_for b buyer seller price lots) }) (value_at b price)
  trade_section call i = go (eqb i buyer) (eqb i seller) refl refl
    where
      go : (is_buyer is_seller : Bool) → eqb i buyer ≡ is_buyer → eqb i seller ≡ is_seller → section_at (traded b buyer seller price lots) i ≡ moved (section_at b i) (record { 0 = cond is_buyer (pos lots) (pos 0) +ℤ cond is_seller (neg_ℤ (pos lots)) (pos 0) }) (value_at b price)
      go true true e f = absurd (call.party.apart (sym (eqb-true i buyer e) ∙ eqb-true i seller f))
      go true false e f = rw (eqb-true i buyer e, +ℤ_idr (pos lots)) (trade_buyer call)
      go false true e f = rw (eqb-true i seller f, +ℤ_idl (neg_ℤ (pos lots))) (trade_seller call)
      go false false e f = trade_other i (eqb-false i buyer e) (eqb-false i seller f) ∙ sym (moved_none (section_at b i) (value_at b price))

  -- so its position moves by the lots, its basis by lots times entry value, and nothing else changes (01, Book, 3)
  pub trade_position : NewTrade b buyer seller price lots → (i : ℕ) → position_of (section_at (traded b buyer seller price lots) i) ≡ position_of (section_at b i) +ℤ sided i (trade_for b buyer seller price lots)
  unfolding moved
  trade_position call i = ap position_of (trade_section call i)

  pub trade_basis : NewTrade b buyer seller price lots → (i : ℕ) → basis_of (section_at (traded b buyer seller price lots) i) ≡ basis_of (section_at b i) +ℤ (worth (record { 0 = sided i (trade_for b buyer seller price lots) }) (value_at b price)).0
  unfolding moved
  trade_basis call i = ap basis_of (trade_section call i)

  pub trade_holder : NewTrade b buyer seller price lots → (i : ℕ) → SameHolder (section_at (traded b buyer seller price lots) i) (section_at b i)
  unfolding moved
  trade_holder call i = holder_by (trade_section call i) (record { settlement = refl; code = refl; participant = refl; seller = refl })

  pub trade_met : NewTrade b buyer seller price lots → (i : ℕ) → (section_at (traded b buyer seller price lots) i).met ≡ (section_at b i).met
  unfolding moved
  trade_met call i = ap (λ (s : Section). s.met) (trade_section call i)

  -- of the book itself only the count of trades changes (01, Book, 1)
  pub trade_terms : SameTerms (traded b buyer seller price lots) b
  unfolding traded
  trade_terms = record { lot = refl; w = refl; r = refl; expired = refl }

  pub trade_notices : SameNotices (traded b buyer seller price lots) b
  unfolding traded
  trade_notices = record { notices = refl; filed = refl }

  pub trade_held : (traded b buyer seller price lots).held ≡ b.held
  unfolding traded
  trade_held = refl

  pub trade_count : (traded b buyer seller price lots).trades ≡ b.trades + 1
  unfolding traded
  trade_count = refl
