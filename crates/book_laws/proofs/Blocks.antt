-- Lists of calls with blocks in them: each comes to the list of the single calls that its calls count as.
use Rattle.numbers.proofs.Words.{ℕ, zero, suc, ◌+◌, ◌<◌, arith, ◌≡◌, refl, sym, ap, ◌∙◌, ⊎_elim, Bool, true, false, cond, List, [], ◌∷◌, ◌++◌, append_assoc, map, eqb, length, get_or, take, entry}
use Rattle.numbers.proofs.Tests.{same_or_not}
use Rattle.numbers.proofs.Ranges.{listed-length, listed_at}
use Rattle.rules.specs.declared.book.{Book.Book}
use Rattle.rules.specs.Book.{good}
use Rattle.rules.specs.Blocks.{Offer, Block, offer_at, offers_of, offer_answer, book_after_offers, offer_numbers, block_number, block_answer}
use Rattle.rules.specs.History.{Single, trade, Call, single, block, answer_of, book_after, Accepted, accepted, call_answer, book_after_calls, trades_in, counts_as, history}
use Rattle.book_laws.proofs.Answers.{kept, written}
use Rattle.book_laws.proofs.Kept.{trade_answered}

-- single calls after others (01, Calls, 3)
book_joined : (cs ds : List Single) (b : Book) → book_after b (cs ++ ds) ≡ book_after (book_after b cs) ds
unfolding book_after
book_joined [] ds b = refl
book_joined (c ∷ cs) ds b = book_joined cs ds (answer_of b c).book

accepted_joined : (cs ds : List Single) (b : Book) → accepted b (cs ++ ds) ≡ accepted b cs ++ accepted (book_after b cs) ds
unfolding accepted book_after
accepted_joined [] ds b = refl
accepted_joined (c ∷ cs) ds b = rw (accepted_joined cs ds (answer_of b c).book) (go (eqb (answer_of b c).number 0))
  where
    go : (t : Bool) →
        let now : Accepted = record { book = b; call = c } in
        let later = accepted (answer_of b c).book cs in
        let last = accepted (book_after (answer_of b c).book cs) ds in
        cond t (now ∷ (later ++ last)) (later ++ last) ≡ cond t (now ∷ later) later ++ last
    go true = refl
    go false = refl

-- trades offered are single calls (02, b, 4)
abbrev trades_of : List Offer → List Single
trades_of = map (λ (offer : Offer). trade offer.buyer offer.seller offer.price offer.lots)

offers_book : (offers : List Offer) (b : Book) → book_after b (trades_of offers) ≡ book_after_offers b offers
unfolding book_after book_after_offers answer_of
offers_book [] b = refl
offers_book (offer ∷ offers) b = offers_book offers (offer_answer b offer).book

-- a block has a trade for each buyer (02, b, 2)
pub offers_long : (trades : Block) → length (offers_of trades) ≡ length trades.buyers
unfolding offers_of
offers_long trades = listed-length (length trades.buyers) (offer_at trades)

pub offer_at_lem : (trades : Block) (i : ℕ) → i < length trades.buyers → get_or (offers_of trades) i (offer_at trades 0) ≡ offer_at trades i
unfolding offers_of
offer_at_lem trades i h = listed_at (length trades.buyers) (offer_at trades) i (offer_at trades 0) h

-- the number of one of them: it is given the book that those before it leave (02, b, 3)
pub offer_number : (offers : List Offer) (b : Book) (i : ℕ) (d : Offer) → i < length offers → entry (offer_numbers b offers) i ≡ (offer_answer (book_after_offers b (take i offers)) (get_or offers i d)).number
unfolding offer_numbers book_after_offers
offer_number [] b i d h = absurd (omega arith)
offer_number (offer ∷ offers) b zero d h = refl
offer_number (offer ∷ offers) b (suc i) d h = offer_number offers (offer_answer b offer).book i d (omega arith)

-- an accepted block leaves the book of its trades, and counts as them; a refused one leaves the book, and counts as none (02, b, 4 and 5)
module _ (b : Book) (trades : Block) (answers : List ℕ) where
  abbrev number : ℕ
  number = block_number b trades (length answers)

  module _ (accepts : number ≡ 0) where
    pub block_counts : counts_as b (block trades answers) ≡ trades_in trades
    unfolding counts_as
    block_counts = sym (written number number (trades_in trades) [] refl accepts)

    pub block_book : (call_answer b (block trades answers)).book ≡ book_after b (trades_in trades)
    unfolding call_answer block_answer trades_in
    block_book = sym (written number number (book_after_offers b (offers_of trades)) b refl accepts) ∙ sym (offers_book (offers_of trades) b)

  module _ (refuses : number ≡ 0 → ⊥) where
    pub refused_counts : counts_as b (block trades answers) ≡ []
    unfolding counts_as
    refused_counts = sym (kept number number (trades_in trades) [] refl refuses)

    pub refused_book : (call_answer b (block trades answers)).book ≡ b
    unfolding call_answer block_answer
    refused_book = sym (kept number number (book_after_offers b (offers_of trades)) b refl refuses)

-- whatever a call is, it leaves the book of what it counts as (01, Calls, 3; 02, b, 4)
counts_book : (b : Book) (c : Call) → (call_answer b c).book ≡ book_after b (counts_as b c)
unfolding call_answer counts_as book_after
counts_book b (single c) = refl
counts_book b (block trades answers) =
    ⊎_elim (λ (accepts : block_number b trades (length answers) ≡ 0). block_book b trades answers accepts ∙ ap (book_after b) (sym (block_counts b trades answers accepts)))
    (λ refuses. refused_book b trades answers refuses ∙ ap (book_after b) (sym (refused_counts b trades answers refuses)))
    (same_or_not (block_number b trades (length answers)) 0)

-- a list of calls, written out as single ones (02, b, 5)
unfoldable pub plain : Book → List Call → List Single
plain b [] = []
plain b (c ∷ cs) = counts_as b c ++ plain (call_answer b c).book cs

pub plain_book_lem : (calls : List Call) (b : Book) → book_after_calls b calls ≡ book_after b (plain b calls)
unfolding book_after_calls plain book_after
plain_book_lem [] b = refl
plain_book_lem (c ∷ cs) b =
    plain_book_lem cs (call_answer b c).book
    ∙ ap (λ (d : Book). book_after d (plain (call_answer b c).book cs)) (counts_book b c)
    ∙ sym (book_joined (counts_as b c) (plain (call_answer b c).book cs) b)

pub plain_history : (calls : List Call) (b : Book) → history b calls ≡ accepted b (plain b calls)
unfolding history plain accepted
plain_history [] b = refl
plain_history (c ∷ cs) b =
    ap (λ (later : List Accepted). accepted b (counts_as b c) ++ later)
    (plain_history cs (call_answer b c).book ∙ ap (λ (d : Book). accepted d (plain (call_answer b c).book cs)) (counts_book b c))
    ∙ sym (accepted_joined (counts_as b c) (plain (call_answer b c).book cs) b)

-- calls after others (01, Calls, 3)
pub calls_book : (before rest : List Call) (b : Book) → book_after_calls b (before ++ rest) ≡ book_after_calls (book_after_calls b before) rest
unfolding book_after_calls
calls_book [] rest b = refl
calls_book (c ∷ cs) rest b = calls_book cs rest (call_answer b c).book

pub calls_history : (before rest : List Call) (b : Book) → history b (before ++ rest) ≡ history b before ++ history (book_after_calls b before) rest
unfolding history book_after_calls
calls_history [] rest b = refl
calls_history (c ∷ cs) rest b =
    ap (λ (later : List Accepted). accepted b (counts_as b c) ++ later) (calls_history cs rest (call_answer b c).book)
    ∙ sym (append_assoc (accepted b (counts_as b c)) (history (call_answer b c).book cs) (history (book_after_calls (call_answer b c).book cs) rest))

-- a list of single calls is one of calls (01, Calls, 3)
pub singles_book : (cs : List Single) (b : Book) → book_after_calls b (map single cs) ≡ book_after b cs
unfolding book_after_calls book_after call_answer
singles_book [] b = refl
singles_book (c ∷ cs) b = singles_book cs (answer_of b c).book

pub singles_history : (cs : List Single) (b : Book) → history b (map single cs) ≡ accepted b cs
unfolding history accepted call_answer counts_as
singles_history [] b = refl
singles_history (c ∷ cs) b = rw (singles_history cs (answer_of b c).book) (go (eqb (answer_of b c).number 0))
  where
    go : (t : Bool) →
        let now : Accepted = record { book = b; call = c } in
        let later = accepted (answer_of b c).book cs in
        cond t (now ∷ []) [] ++ later ≡ cond t (now ∷ later) later
    go true = refl
    go false = refl

-- trades offered leave a good book good (01, Book, 5; 02, b, 4)
pub offers_good : (offers : List Offer) (b : Book) → good b ≡ true → good (book_after_offers b offers) ≡ true
unfolding book_after_offers
offers_good [] b is = is
offers_good (offer ∷ offers) b is = offers_good offers (offer_answer b offer).book (trade_answered b _ _ _ _ is)

-- one trade more (02, b, 3)
after_next : (offers : List Offer) (b : Book) (i : ℕ) (d : Offer) → i < length offers → book_after_offers b (take (suc i) offers) ≡ (offer_answer (book_after_offers b (take i offers)) (get_or offers i d)).book
unfolding book_after_offers
after_next [] b i d h = absurd (omega arith)
after_next (offer ∷ offers) b zero d h = refl
after_next (offer ∷ offers) b (suc i) d h = after_next offers (offer_answer b offer).book i d (omega arith)

pub offers_next : (offers : List Offer) (b : Book) (i : ℕ) (d : Offer) → i < length offers → book_after_offers b (take (i + 1) offers) ≡ (offer_answer (book_after_offers b (take i offers)) (get_or offers i d)).book
offers_next offers b i d h =
    let one_more : i + 1 ≡ suc i = omega arith in
    ap (λ (n : ℕ). book_after_offers b (take n offers)) one_more ∙ after_next offers b i d h

pub offers_numbered : (offers : List Offer) (b : Book) → length (offer_numbers b offers) ≡ length offers
unfolding offer_numbers
offers_numbered [] b = refl
offers_numbered (offer ∷ offers) b = ap suc (offers_numbered offers (offer_answer b offer).book)
