-- A trade's number by what a good book says of it.
use Rattle.numbers.proofs.Words.{ℕ, ◌≤◌, ◌<◌, arith, ◌≡◌, refl, sym, ap, ap₂, subst, ◌∙◌, ⊎_elim, true, cond, List, ◌++◌, eqb, ne_eqb, nat_abs}
use Rattle.numbers.proofs.Tests.{same_or_not, below_or_not}
use Rattle.rules.specs.declared.{book.Book.Book, book.Section.Section, units.Kopecks.Kopecks}
use Rattle.value_laws.proofs.Value.{value_within}
use Rattle.rules.specs.Book.{good, section_at, position_of, value_at}
use Rattle.rules.specs.Calls.{Refusal, first, party_refusals, size_refusals, room_refusals, trade_number}
use Rattle.book_laws.proofs.Accepted.{NewTrade, parties, parties_numbered, sizes_numbered}
use Rattle.book_laws.proofs.Answers.{says, says_none, numbered, first_hit, first_pass}
use Rattle.book_laws.proofs.Blank.{rest_read}
use Rattle.book_laws.proofs.Good.{facts}
use Rattle.book_laws.proofs.Held.{held_good, held_basis}
use Rattle.call_trade.specs.Offered.{place_of, party_number, room_number, first_said, offered_number, Movable}

-- the first refusal of two lists, one after the other
joined : (xs ys : List Refusal) → numbered xs ≡ true → first (xs ++ ys) ≡ cond (eqb (first xs) 0) (first ys) (first xs)
joined xs ys each =
    ⊎_elim (λ (none : first xs ≡ 0). rw none (first_pass xs ys each none)) (λ some. rw (ne_eqb (first xs) 0 some) (sym (first_hit xs ys (first xs) refl some))) (same_or_not (first xs) 0)

-- a position at any place of a good book keeps its limit: past the sections held it is 0 (01, Book, 2 and 4)
pub place_position : (b : Book) → good b ≡ true → (i : ℕ) → nat_abs (position_of (section_at b i)) ≤ 1_000_000
place_position b is i =
    ⊎_elim (λ (h : i < b.held). (held_good b (facts b is) i h).position) (λ (h : b.held ≤ i). subst (λ z. nat_abs z ≤ 1_000_000) (sym (rest_read b (facts b is) i h position_of refl)) (omega arith)) (below_or_not i b.held)

-- of three groups the first that says a number
module _ (size room : ℕ) {p q : ℕ} (e : p ≡ q) where
  pub said_party : (p ≡ 0 → ⊥) → p ≡ first_said q size room
  said_party some = rw (sym e, ne_eqb p 0 some)

  pub said_later : {n : ℕ} → p ≡ 0 → n ≡ cond (eqb size 0) room size → n ≡ first_said q size room
  said_later none later = rw (sym e, none) later

module _ (room : ℕ) {p q : ℕ} (e : p ≡ q) where
  pub said_size : (p ≡ 0 → ⊥) → p ≡ cond (eqb q 0) room q
  said_size some = rw (sym e, ne_eqb p 0 some)

  pub said_room : {n : ℕ} → p ≡ 0 → n ≡ room → n ≡ cond (eqb q 0) room q
  said_room none later = rw (sym e, none) later

module _ (b : Book) (is : good b ≡ true) (buyer seller price lots : ℕ) where
  -- the sections at the places of the two
  abbrev s : Section
  s = section_at b (place_of buyer)

  abbrev t : Section
  t = section_at b (place_of seller)

  party_number_lem : party_number b.expired b.held buyer seller ≡ first (party_refusals b buyer seller)
  unfolding party_refusals
  party_number_lem = simp (says, says_none, is)

  -- two sections held stand at places of their own numbers
  room_number_lem : first (party_refusals b buyer seller) ≡ 0 → room_number s t b.trades lots ≡ first (room_refusals b buyer seller lots)
  unfolding room_refusals
  room_number_lem none =
      let known = parties b buyer seller none in
      let held = (facts b is).held in
      let at : place_of buyer ≡ buyer = omega (arith, known.buyer_known, held) in
      let other : place_of seller ≡ seller = omega (arith, known.seller_known, held) in
      ap₂ (λ (i j : ℕ). room_number (section_at b i) (section_at b j) b.trades lots) at other ∙ simp (says, says_none)

  -- so what is said by them is the trade's number (01, Trade, 1)
  offered_number_lem : offered_number b.expired b.held b.r b.trades s t buyer seller price lots ≡ trade_number b buyer seller price lots
  unfolding offered_number trade_number
  offered_number_lem =
      let party = party_refusals b buyer seller in
      let size = size_refusals b.r price lots in
      let room = room_refusals b buyer seller lots in
      let rest = joined size room (sizes_numbered _ _ _) in
      let later : first_said (first party) (first size) (room_number s t b.trades lots) ≡ cond (eqb (first party) 0) (first (size ++ room)) (first party) =
      ⊎_elim (λ (none : first party ≡ 0). rw none (ap (λ n. cond (eqb (first size) 0) n (first size)) (room_number_lem none) ∙ sym rest)) (λ some. rw (ne_eqb (first party) 0 some)) (same_or_not (first party) 0)
      in
      ap (λ n. first_said n (first size) (room_number s t b.trades lots)) party_number_lem ∙ later ∙ sym (joined party (size ++ room) (parties_numbered _ _ _))

  pub offered_at : {n p q : ℕ} → p ≡ place_of buyer → q ≡ place_of seller → n ≡ offered_number b.expired b.held b.r b.trades (section_at b p) (section_at b q) buyer seller price lots → n ≡ trade_number b buyer seller price lots
  offered_at at other said =
      said ∙ ap₂ (λ (i j : ℕ). offered_number b.expired b.held b.r b.trades (section_at b i) (section_at b j) buyer seller price lots) at other ∙ offered_number_lem

-- what an accepted trade keeps to, for either of its sections (01, Trade, 1; 01, Book, 4)
pub movable : {b : Book} {buyer seller price lots : ℕ} → NewTrade b buyer seller price lots → {value : Kopecks} → value ≡ value_at b price → (i : ℕ) → i < b.held → Movable (section_at b i) lots value
movable {b = b} new {value = value} e i h =
    let book = new.party.book in
    record {
      position = (held_good b book i h).position;
      basis = held_basis b book i h;
      few = new.size.lots_range.most;
      small = subst (λ (v : Kopecks). nat_abs v.0 ≤ 1_000_000_000) (sym e) (value_within book.k.most new.size.price_range.most);
    }
