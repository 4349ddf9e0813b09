-- An accepted expiry was given a good book.
use Rattle.std.specs.Prelude.{Ok}
use Rattle.numbers.proofs.Words.{arith, ◌≡◌, sym, ap, true, not-false}
use Rattle.rules.specs.declared.book.{Book.Book, Expired.Expired}
use Rattle.rules.specs.Words.{ExpiryAnswer}
use Rattle.rules.specs.Answers.{expiry_answer_in}
use Rattle.rules.specs.Book.{good}
use Rattle.rules.specs.Expiry.Call.{Lists, expiry_refusals, expiry_answer}
use Rattle.book_laws.proofs.Answers.{first_none}

pub accepted_good : (b : Book) (ls : Lists) {e : Expired} → expiry_answer_in b (Ok e) ≡ expiry_answer b ls → good b ≡ true
unfolding expiry_answer expiry_refusals
accepted_good b ls is = not-false (good b) (first_none _ _ (omega arith) (sym (ap (λ (x : ExpiryAnswer). x.number) is))).0
