-- An accepted trade leaves a good book.
use Rattle.numbers.proofs.Words.{ℕ, ◌+◌, ◌≤◌, ◌<◌, arith, ◌≡◌, refl, sym, subst, subst₂, true, [], get_or, set, get_or-set_other, ℤ, pos, neg_ℤ, nat_abs, ◌+ℤ◌, +ℤ_idl, +ℤ_invr}
use Rattle.rules.specs.declared.{book.Book.Book, book.Section.Section, units.Lots.Lots}
use Rattle.value_laws.proofs.Value.{value_within, worth_within, worth_sold}
use Rattle.numbers.proofs.Whole.{sum_within}
use Rattle.rules.specs.Units.{worth}
use Rattle.rules.specs.Book.{good, position_of, basis_of, section_at, section_of_noughts, value_at}
use Rattle.rules.specs.Calls.{trade_number, moved, traded}
use Rattle.book_laws.proofs.Accepted.{NewTrade, trade}
use Rattle.book_laws.proofs.Good.{Good, test}
use Rattle.book_laws.proofs.Held.{held_good}
use Rattle.book_laws.proofs.Lots.{sold_size}
use Rattle.book_laws.proofs.Kept.Sections.{Changed, Moves, still_good, unchanged, one_changed, restated_good}

abbrev bought : ℕ → Lots
bought lots = record { 0 = pos lots }

abbrev sold : ℕ → Lots
sold lots = record { 0 = neg_ℤ (pos lots) }

-- section i after a trade of so many lots on its side
abbrev after : Book → ℕ → Lots → ℕ → Section
after b i lots price = moved (section_at b i) lots (value_at b price)

-- what is added and taken off again
back : (x y : ℤ) → y ≡ neg_ℤ x → pos 0 +ℤ x +ℤ y ≡ pos 0
back x y e = rw (e, +ℤ_idl x) (+ℤ_invr x)

module _ (b : Book) (buyer seller price lots : ℕ) (call : NewTrade b buyer seller price lots) where
  book : Good b
  book = call.party.book

  few : lots ≤ 10_000
  few = call.size.lots_range.most

  -- a party moves by its lots within the limits, and one trade more is counted
  party_moves : (i : ℕ) (side : Lots) → i < b.held → nat_abs (position_of (section_at b i) +ℤ side.0) ≤ 1_000_000 → nat_abs side.0 ≤ 10_000 → Moves (b.trades + 1) (section_at b i) (after b i side price) side.0 (worth side (value_at b price)).0
  unfolding moved
  party_moves i side known room small =
      let was = held_good b book i known in
      let value_small = value_within book.k.most call.size.price_range.most in
      let basis = sum_within (basis_of (section_at b i)) (worth side (value_at b price)).0 was.basis (worth_within side (value_at b price) small value_small) in
      record {
        code = refl;
        good = still_good was (b.trades + 1) (after b i side price) refl refl room (omega (arith, basis));
        position = refl;
        basis = refl;
      }

  buyer_changed : Changed b (set b.sections buyer (after b buyer (bought lots) price)) (b.trades + 1) (pos 0 +ℤ pos lots) (pos 0 +ℤ (worth (bought lots) (value_at b price)).0)
  buyer_changed =
      one_changed book (unchanged b book (b.trades + 1) (omega arith)) buyer call.party.buyer_known (section_of_noughts []) (after b buyer (bought lots) price)
      (party_moves buyer (bought lots) call.party.buyer_known call.room.buyer_within few)

  -- the seller is another section
  seller_stands : section_at b seller ≡ get_or (set b.sections buyer (after b buyer (bought lots) price)) seller (section_of_noughts [])
  seller_stands = sym (get_or-set_other b.sections buyer seller _ (section_of_noughts []) (λ h. call.party.apart (sym h)))

  both_changed : Changed b (traded b buyer seller price lots).sections (b.trades + 1) (pos 0) (pos 0)
  unfolding traded
  both_changed =
      let v = value_at b price in
      let new = after b seller (sold lots) price in
      let selling = party_moves seller (sold lots) call.party.seller_known call.room.seller_within (sold_size lots few) in
      subst₂ (Changed b (traded b buyer seller price lots).sections (b.trades + 1)) (back (pos lots) (neg_ℤ (pos lots)) refl)
      (back (worth (bought lots) v).0 (worth (sold lots) v).0 (worth_sold (pos lots) v))
      (one_changed book buyer_changed seller call.party.seller_known (section_of_noughts []) new
      (subst (λ (s : Section). Moves (b.trades + 1) s new (neg_ℤ (pos lots)) (worth (sold lots) v).0) seller_stands selling))

pub trade_kept : (b : Book) (buyer seller price lots : ℕ) → trade_number b buyer seller price lots ≡ 0 → good (traded b buyer seller price lots) ≡ true
unfolding traded
trade_kept b buyer seller price lots e =
    let call = trade b buyer seller price lots e in
    let book = call.party.book in
    test _ (restated_good b _ b.last b.price (b.trades + 1) book (both_changed b buyer seller price lots call) book.last (omega (arith, call.room.trades)))
