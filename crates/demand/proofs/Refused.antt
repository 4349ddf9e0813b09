-- A refused call hands out the same book.
use Rattle.numbers.proofs.Words.{◌≡◌, refl, sym}
use Rattle.rules.specs.declared.book.{Book.Book}
use Rattle.rules.specs.Calls.{section_answer, trade_answer, session_answer, condition_answer, notice_answer}
use Rattle.rules.specs.Expiry.Call.{expiry_answer}
use Rattle.rules.specs.History.{Single, section, trade, session, condition, notice, expiry, answer_of}
use Rattle.book_laws.proofs.Answers.{kept}

-- what a refused call hands out (01, Book, 7; 01, Calls, 3)
pub same_book : (b : Book) (c : Single) → ((answer_of b c).number ≡ 0 → ⊥) → (answer_of b c).book ≡ b
unfolding answer_of section_answer trade_answer session_answer condition_answer notice_answer expiry_answer
same_book b (section settlement code participant seller) refused = sym (kept _ _ _ b refl refused)
same_book b (trade buyer seller price lots) refused = sym (kept _ _ _ b refl refused)
same_book b (session price list) refused = sym (kept _ _ _ b refl refused)
same_book b (condition i met) refused = sym (kept _ _ _ b refl refused)
same_book b (notice i elevator lots) refused = sym (kept _ _ _ b refl refused)
same_book b (expiry ls) refused = sym (kept _ _ _ b refl refused)
