-- Which failures reach a grower: an expiry delivers what is said here, the counts make two to the power of the number named, the order of the names does not matter, and a section with no position doubles each (02, n, 4).
use Rattle.numbers.proofs.Words.{ℕ, ◌*◌, ◌<◌, arith, ◌≡◌, Bool, not, ◌||◌, List, ◌∷◌, length, le-ltb, not-false, eqb, passing, some, apart, entry}
use Rattle.numbers.proofs.Tests.{or_left, or_right, both}
use Rattle.rules.specs.declared.book.{Book.Book}
use Rattle.rules.specs.Book.{section_at}
use Rattle.rules.specs.Calls.{first, unknown, handed_out, count}
use Rattle.rules.specs.Expiry.{size}
use Rattle.rules.specs.Expiry.Call.{Lists, expiry_refusals, expiry_lists}
use Rattle.rules.specs.Failures.{delivered_in, patterns, failures_number, failures_answer, in_full, in_part, not_at_all, named_most, FailuresShown}
use Rattle.book_laws.proofs.Answers.{first_none}
use Rattle.book_laws.proofs.ExpiryLists.{delivered_written}
use Rattle.book_laws.proofs.Good.{facts}
use Rattle.book_laws.proofs.Held.{held_length}
use Rattle.pattern_laws.proofs.Accepted.{Accepted, accepted}
use Rattle.pattern_laws.proofs.Ending.{all_endings}
use Rattle.pattern_laws.proofs.Named.{number_any_order, ending_any_order}
use Rattle.pattern_laws.proofs.Plain.{plain_book}
use Rattle.pattern_laws.proofs.Doubled.{doubled, full_unseen, part_unseen, none_unseen}

-- and the other way round: where all of it holds, nothing is refused (02, n, 5)
number_none : (b : Book) (asked : ℕ) (named : List ℕ) → Accepted b asked named → failures_number b asked named ≡ 0
unfolding failures_number first some
number_none b asked named a = simp (a.book, a.running, a.known, le-ltb named_most (length named) a.few, a.different)

-- where a call is accepted, so is one that names one section less
fewer_named : (b : Book) (asked : ℕ) (named : List ℕ) (i : ℕ) → failures_number b asked (i ∷ named) ≡ 0 → failures_number b asked named ≡ 0
unfolding some apart
fewer_named b asked named i e =
    let a = accepted b asked (i ∷ named) e in
    let others = or_right (unknown b i) (some (unknown b) named) (or_right (unknown b asked) (unknown b i || some (unknown b) named) a.known) in
    number_none b asked named
    (record {
      book = a.book;
      running = a.running;
      known = simp (or_left (unknown b asked) (unknown b i || some (unknown b) named) a.known, others);
      few = omega (arith, a.few);
      different = (both (not (some (eqb i) named)) (apart eqb named) a.different).1;
    })

-- naming a section with no position besides doubles a count (02, n, 4)
count_doubled : (b : Book) (asked : ℕ) (named : List ℕ) (i : ℕ) → size (section_at b i) ≡ 0 → failures_number b asked (i ∷ named) ≡ 0 → (ends : Book → Bool)
    → ((c : Book) → ends (plain_book c) ≡ ends c)
    → count (failures_number b asked (i ∷ named)) (passing ends (patterns b (i ∷ named))) ≡ 2 * count (failures_number b asked named) (passing ends (patterns b named))
count_doubled b asked named i flat e ends unseen = rw (e, fewer_named b asked named i e) (doubled ends unseen b i named flat)

-- what an accepted expiry writes for a section is what its book delivers (02, n, 4)
as_expiry : (b : Book) (ls : Lists) (i : ℕ) → first (expiry_refusals b ls) ≡ 0 → i < b.held → entry (expiry_lists b ls).delivered i ≡ delivered_in i b
unfolding expiry_lists delivered_in expiry_refusals
as_expiry b ls i e held =
    let book = facts b (not-false _ (first_none _ _ (omega arith) e).0) in
    rw e (delivered_written b ls i (omega (arith, held, held_length b book.section_places_lem book.held)))

-- what is shown of the answer (02, n, 4)
pub failures_shown : FailuresShown
unfolding failures_answer
failures_shown =
    record {
      as_expiry = as_expiry;
      together = λ b asked named e. rw e (all_endings asked named b);
      any_order = λ b asked named other same k.
          let number = number_any_order b asked named other same k in
          record {
            number = number;
            full = handed_out number (ending_any_order (in_full asked) b named other same k) 0;
            part = handed_out number (ending_any_order (in_part asked) b named other same k) 0;
            none = handed_out number (ending_any_order (not_at_all asked) b named other same k) 0;
          };
      flat_doubles = λ b asked named i flat e k.
          record {
            number = e k;
            full = count_doubled b asked named i flat e (in_full asked) (full_unseen asked) k;
            part = count_doubled b asked named i flat e (in_part asked) (part_unseen asked) k;
            none = count_doubled b asked named i flat e (not_at_all asked) (none_unseen asked) k;
          };
    }
