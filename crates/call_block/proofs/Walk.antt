-- The trades of a block one after the other: where a book stands on the way, and what one trade more does.
use Rattle.numbers.proofs.Words.{ℕ, ◌+◌, ◌≤◌, ◌<◌, arith, ◌≡◌, refl, sym, ap, ap₂, subst, ◌∙◌, ⊎_elim, true, List, length, length-set, set, take, take_all, pos, neg_ℤ, nat_abs, set-get_or, entry}
use Rattle.numbers.proofs.Tests.{same_or_not}
use Rattle.numbers.proofs.Ranges.{listed_entries}
use Rattle.numbers.proofs.Filled.{Filled, filled_none, filled_next, filled_end}
use Rattle.rules.specs.declared.{book.Book.Book, book.Section.Section, units.Kopecks.Kopecks}
use Rattle.rules.specs.Book.{good, section_of, position_of, value_at}
use Rattle.rules.specs.Calls.{handed_out, moved, traded, trade_number, trade_answer}
use Rattle.rules.specs.Blocks.{Offer, Block, offer_at, offers_of, offer_answer, book_after_offers, offer_numbers}
use Rattle.book_laws.proofs.Accepted.{NewTrade, trade}
use Rattle.book_laws.proofs.Answers.{kept, written}
use Rattle.book_laws.proofs.Blocks.{offers_long, offer_at_lem, offers_good, offers_next, offer_number, offers_numbered}
use Rattle.call_block.specs.Lists.{standing}
use Rattle.call_trade.specs.Offered.{place_of, offered_number, Movable}
use Rattle.call_trade.proofs.Laws.{place_position, offered_at, movable}

-- after i trades: the book, and so many answers (02, b, 3 and 4)
pub record Walk (b : Book) (trades : Block) (was : List ℕ) (sections : List Section) (count : ℕ) (now : List ℕ) (i : ℕ) : Type 0 where
  pub places : length sections ≡ 128
  pub book : standing b sections count ≡ book_after_offers b (take i (offers_of trades))
  pub answers : Filled (entry (offer_numbers b (offers_of trades))) was now i

pub walk_start : (b : Book) (trades : Block) (was : List ℕ) → length b.sections ≡ 128 → Walk b trades was b.sections b.trades was 0
unfolding book_after_offers
walk_start b trades was places = record { places = places; book = refl; answers = filled_none _ _ }

-- at the end of the block
pub walk_end : {b : Book} {trades : Block} {was : List ℕ} {sections : List Section} {count : ℕ} {now : List ℕ} {i : ℕ} → Walk b trades was sections count now i
    → length was ≤ i → length trades.buyers ≡ length was → (standing b sections count ≡ book_after_offers b (offers_of trades)) × (now ≡ offer_numbers b (offers_of trades))
walk_end {b = b} {trades = trades} {was = was} {i = i} w all same =
    let n = offers_long trades in
    let full = offers_numbered (offers_of trades) b in (
      w.book ∙ ap (book_after_offers b) (take_all i (offers_of trades) (omega (arith, all, same, n))),
      filled_end w.answers all (length (offer_numbers b (offers_of trades))) (omega (arith, same, n, full)) ∙ listed_entries (offer_numbers b (offers_of trades)) 0,
    )

module _ {b : Book} {trades : Block} {was : List ℕ} {sections : List Section} {count : ℕ} {now : List ℕ} {i : ℕ} (w : Walk b trades was sections count now i) (is : good b ≡ true) where
  abbrev d : Book
  d = standing b sections count

  still_good : good d ≡ true
  still_good = subst (λ (e : Book). good e ≡ true) (sym w.book) (offers_good (take i (offers_of trades)) b is)

  pub positions : (p : ℕ) → nat_abs (position_of (section_of sections p)) ≤ 1_000_000
  positions p = place_position d still_good p

  abbrev offer : Offer
  offer = offer_at trades i

  -- trade number i, whose number was found by what the book says of it
  module _ {n p q : ℕ} (at : p ≡ place_of offer.buyer) (other : q ≡ place_of offer.seller)
      (said : n ≡ offered_number b.expired b.held b.r count (section_of sections p) (section_of sections q) offer.buyer offer.seller offer.price offer.lots) where
    number_is : n ≡ trade_number d offer.buyer offer.seller offer.price offer.lots
    number_is = offered_at d still_good _ _ _ _ at other said

    -- an accepted one
    module _ (accepts : n ≡ 0) where
      new : NewTrade d offer.buyer offer.seller offer.price offer.lots
      new = trade d _ _ _ _ (sym number_is ∙ accepts)

      to_buyer : p ≡ offer.buyer
      to_buyer = omega (arith, at, new.party.buyer_known, new.party.book.held)

      from_seller : q ≡ offer.seller
      from_seller = omega (arith, other, new.party.seller_known, new.party.book.held)

      pub buyer_moves : {v : Kopecks} → v ≡ value_at b offer.price → Movable (section_of sections p) offer.lots v
      buyer_moves e = movable new e p (omega (arith, to_buyer, new.party.buyer_known))

      pub seller_moves : {v : Kopecks} → v ≡ value_at b offer.price → Movable (section_of sections q) offer.lots v
      seller_moves e = movable new e q (omega (arith, from_seller, new.party.seller_known))

      pub room : count < 2_000
      room = new.room.trades

    -- one trade more: its sections and the count are moved where it is accepted, else as they were
    module _ {v : Kopecks} (value : v ≡ value_at b offer.price) {s t : Section}
        (bought : s ≡ handed_out n (moved (section_of sections p) (record { 0 = pos offer.lots }) v) (section_of sections p))
        (sold : t ≡ handed_out n (moved (section_of sections q) (record { 0 = neg_ℤ (pos offer.lots) }) v) (section_of sections q))
        {k : ℕ} (counts : k ≡ handed_out n (count + 1) count) where
      moved_on : standing b (set (set sections p s) q t) k ≡ (offer_answer d offer).book
      unfolding trade_answer traded
      moved_on =
          ⊎_elim
          (λ (accepts : n ≡ 0).
          let e = to_buyer accepts in
          let f = from_seller accepts in
          let buying = bought ∙ sym (written n n _ _ refl accepts) ∙ ap₂ (λ (j : ℕ) (x : Kopecks). moved (section_of sections j) (record { 0 = pos offer.lots }) x) e value in
          let selling = sold ∙ sym (written n n _ _ refl accepts) ∙ ap₂ (λ (j : ℕ) (x : Kopecks). moved (section_of sections j) (record { 0 = neg_ℤ (pos offer.lots) }) x) f value in
          let counting = counts ∙ sym (written n n _ _ refl accepts) in
          (λ j. standing b (set (set sections (e j) (buying j)) (f j) (selling j)) (counting j))
          ∙ written n _ _ _ number_is accepts)
          (λ refuses.
          let stays : set (set sections p s) q t ≡ sections = ap₂ (λ (x y : Section). set (set sections p x) q y) (bought ∙ sym (kept n n _ _ refl refuses)) (sold ∙ sym (kept n n _ _ refl refuses)) ∙ ap (λ (l : List Section). set l q (section_of sections q)) (set-get_or sections p _) ∙ set-get_or sections q _ in
          ap₂ (λ (l : List Section) (m : ℕ). standing b l m) stays (counts ∙ sym (kept n n _ _ refl refuses))
          ∙ kept n _ _ _ number_is refuses)
          (same_or_not n 0)

      number_of : n ≡ (offer_answer d offer).number
      unfolding trade_answer
      number_of = number_is

      pub walk_next : {answer : ℕ} → answer ≡ n → i < length was → length trades.buyers ≡ length was → Walk b trades was (set (set sections p s) q t) k (set now i answer) (i + 1)
      walk_next {answer = answer} answered h same =
          let short : i < length (offers_of trades) = omega (arith, h, same, offers_long trades) in
          let found = offer_at_lem trades i (omega (arith, h, same)) in
          let given = w.book in
          record {
            places = length-set (set sections p s) q t ∙ length-set sections p s ∙ w.places;
            book =
                moved_on
                ∙ ap₂ (λ (e : Book) (o : Offer). (offer_answer e o).book) given (sym found)
                ∙ sym (offers_next (offers_of trades) b i (offer_at trades 0) short);
            answers =
                filled_next w.answers h answer
                (answered
                ∙ number_of
                ∙ ap₂ (λ (e : Book) (o : Offer). (offer_answer e o).number) given (sym found)
                ∙ sym (offer_number (offers_of trades) b i (offer_at trades 0) short));
          }
