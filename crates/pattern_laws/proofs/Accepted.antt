-- What an accepted call says of its book and of the sections named.
use Rattle.numbers.proofs.Words.{ℕ, ◌≤◌, arith, ◌≡◌, true, false, not, ◌||◌, List, length, ltb, ltb-false, not-false, eqb, some, apart}
use Rattle.numbers.proofs.Tests.{or_left, or_right}
use Rattle.rules.specs.declared.book.{Book.Book}
use Rattle.rules.specs.Book.{good}
use Rattle.rules.specs.Calls.{unknown}
use Rattle.rules.specs.Failures.{failures_number, named_most}
use Rattle.book_laws.proofs.Answers.{first_none}

-- (02, n, 5)
pub record Accepted (b : Book) (asked : ℕ) (named : List ℕ) : Type 0 where
  pub book : good b ≡ true
  pub running : b.expired ≡ false
  pub known : (unknown b asked || some (unknown b) named) ≡ false
  pub few : length named ≤ named_most
  pub different : apart eqb named ≡ true

pub accepted : (b : Book) (asked : ℕ) (named : List ℕ) → failures_number b asked named ≡ 0 → Accepted b asked named
unfolding failures_number some
accepted b asked named e =
    let book = first_none _ _ (omega arith) e in
    let running = first_none _ _ (omega arith) book.1 in
    let known = first_none _ _ (omega arith) running.1 in
    let few = first_none _ _ (omega arith) known.1 in
    record {
      book = not-false _ book.0;
      running = running.0;
      known = known.0;
      few = ltb-false named_most (length named) (or_left (ltb named_most (length named)) (not (apart eqb named)) few.0);
      different = not-false _ (or_right (ltb named_most (length named)) (not (apart eqb named)) few.0);
    }
