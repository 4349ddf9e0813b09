-- Whatever a call's number, the book in its answer is good if the book that it was given is (01, Book, 5). That an accepted call leaves
-- a good book is shown in the module of each call.
use Rattle.numbers.proofs.Words.{ℕ, ◌≡◌, refl, ◌∙◌, Bool, true, false, cond, List, length, eqb, eqb-true}
use Rattle.rules.specs.declared.book.{Book.Book}
use Rattle.rules.specs.Book.{good, terms_good, places_good, sections_good, notices_good, tails_blank}
use Rattle.rules.specs.Calls.{first, handed_out, section_answer, trade_answer, session_answer, condition_answer, notice_answer}
use Rattle.rules.specs.Expiry.Call.{Lists, expiry_refusals, after_expiry, expiry_answer}
use Rattle.rules.specs.History.{Single, section, trade, session, condition, notice, expiry, answer_of}
pub mod Sections
pub mod Opening
pub mod Section
pub mod Trade
pub mod Session
pub mod Condition
pub mod Notice

-- a refused call hands out the same book
answered : (number : ℕ) (new old : Book) → (number ≡ 0 → good new ≡ true) → good old ≡ true → good (handed_out number new old) ≡ true
answered number new old kept was = go (eqb number 0) refl
  where
    go : (t : Bool) → eqb number 0 ≡ t → good (cond t new old) ≡ true
    go true e = kept (eqb-true number 0 e)
    go false e = was

pub section_answered : (b : Book) (settlement : ℕ) (code : List ℕ) (participant : ℕ) (seller : Bool) → good b ≡ true → good (section_answer b settlement code participant seller).book ≡ true
unfolding section_answer
section_answered b settlement code participant seller = answered _ _ b (Section.section_kept b settlement code participant seller)

pub trade_answered : (b : Book) (buyer seller price lots : ℕ) → good b ≡ true → good (trade_answer b buyer seller price lots).book ≡ true
unfolding trade_answer
trade_answered b buyer seller price lots = answered _ _ b (Trade.trade_kept b buyer seller price lots)

pub session_answered : (b : Book) (price room : ℕ) → good b ≡ true → good (session_answer b price room).book ≡ true
unfolding session_answer
session_answered b price room = answered _ _ b (Session.session_kept b price room)

pub condition_answered : (b : Book) (i : ℕ) (met : Bool) → good b ≡ true → good (condition_answer b i met).book ≡ true
unfolding condition_answer
condition_answered b i met = answered _ _ b (Condition.condition_kept b i met)

pub notice_answered : (b : Book) (i elevator lots : ℕ) → good b ≡ true → good (notice_answer b i elevator lots).book ≡ true
unfolding notice_answer
notice_answered b i elevator lots = answered _ _ b (Notice.notice_kept b i elevator lots)

-- the expired mark is no part of the rules of the book (01, Expiry call, 3)
pub expiry_kept : (b : Book) → good (after_expiry b) ≡ good b
unfolding good terms_good places_good sections_good notices_good tails_blank after_expiry
expiry_kept b = refl

pub expiry_answered : (b : Book) (ls : Lists) → good b ≡ true → good (expiry_answer b ls).book ≡ true
unfolding expiry_answer
expiry_answered b ls was = answered (first (expiry_refusals b ls)) (after_expiry b) b (λ e. expiry_kept b ∙ was) was

pub call_answered : (b : Book) (call : Single) → good b ≡ true → good (answer_of b call).book ≡ true
unfolding answer_of
call_answered b (section settlement code participant seller) = section_answered b settlement code participant seller
call_answered b (trade buyer seller price lots) = trade_answered b buyer seller price lots
call_answered b (session price list) = session_answered b price (length list)
call_answered b (condition i met) = condition_answered b i met
call_answered b (notice i elevator lots) = notice_answered b i elevator lots
call_answered b (expiry ls) = expiry_answered b ls
