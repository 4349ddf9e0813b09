-- The book of noughts breaks the rules, so every call refuses it with 1 (01, Book, 7).
use Rattle.numbers.proofs.Words.{ℕ, ◌≡◌, refl, sym, false, List}
use Rattle.rules.specs.Book.{no_book, good, terms_good}
use Rattle.rules.specs.Calls.{section_number, trade_number, party_refusals, session_number, condition_number, notice_number}
use Rattle.book_laws.proofs.Answers.{bad_book}

pub no_book_lem : good no_book ≡ false
unfolding good terms_good
no_book_lem = refl

pub no_book_section : (settlement : ℕ) (code : List ℕ) → section_number no_book settlement code ≡ 1
unfolding section_number
no_book_section settlement code = sym (bad_book no_book _ no_book_lem)

pub no_book_trade : (buyer seller price lots : ℕ) → trade_number no_book buyer seller price lots ≡ 1
unfolding trade_number party_refusals
no_book_trade buyer seller price lots = sym (bad_book no_book _ no_book_lem)

pub no_book_session : (price room : ℕ) → session_number no_book price room ≡ 1
unfolding session_number
no_book_session price room = sym (bad_book no_book _ no_book_lem)

pub no_book_condition : (i : ℕ) → condition_number no_book i ≡ 1
unfolding condition_number
no_book_condition i = sym (bad_book no_book _ no_book_lem)

pub no_book_notice : (i elevator lots : ℕ) → notice_number no_book i elevator lots ≡ 1
unfolding notice_number
no_book_notice i elevator lots = sym (bad_book no_book _ no_book_lem)
