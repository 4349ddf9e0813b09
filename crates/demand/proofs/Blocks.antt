-- A block anywhere in a list of calls (document 02, b).
use Rattle.numbers.proofs.Words.{ℕ, arith, ◌≡◌, refl, sym, ap, ap₂, ◌∙◌, not, List, ◌∷◌, ◌++◌, map, eqb, eqb-true, not-false, length, take, some, entry}
use Rattle.numbers.proofs.Tests.{or_left}
use Rattle.rules.specs.declared.book.{Book.Book}
use Rattle.rules.specs.Blocks.{Block, offer_at, offers_of, offer_answer, book_after_offers, offer_numbers, block_number, block_answers}
use Rattle.rules.specs.History.{Call, single, block, Accepted, accepted, book_after_calls, trades_in, history, Alike, BlocksShown}
use Rattle.book_laws.proofs.Answers.{first_none, written}
use Rattle.book_laws.proofs.Blocks.{block_counts, block_book, refused_counts, refused_book, calls_book, calls_history, singles_book, singles_history, offers_long, offer_at_lem, offer_number}

-- what comes to the same after some calls comes to the same with them
alike_after : (b : Book) (before calls others : List Call) → Alike (book_after_calls b before) calls others → Alike b (before ++ calls) (before ++ others)
alike_after b before calls others same =
    record {
      histories = calls_history before calls b ∙ ap (λ (later : List Accepted). history b before ++ later) same.histories ∙ sym (calls_history before others b);
      books = calls_book before calls b ∙ same.books ∙ sym (calls_book before others b);
    }

module _ (b : Book) (trades : Block) (answers : List ℕ) (after : List Call) where
  written_out : block_number b trades (length answers) ≡ 0 → Alike b (block trades answers ∷ after) (map single (trades_in trades) ++ after)
  unfolding history book_after_calls
  written_out accepts =
      let out = map single (trades_in trades) in
      let end = singles_book (trades_in trades) b in
      record {
        histories =
            ap₂ (λ (now : List Accepted) (d : Book). now ++ history d after) (ap (accepted b) (block_counts b trades answers accepts) ∙ sym (singles_history (trades_in trades) b)) (block_book b trades answers accepts ∙ sym end)
            ∙ sym (calls_history out after b);
        books = ap (λ (d : Book). book_after_calls d after) (block_book b trades answers accepts ∙ sym end) ∙ sym (calls_book out after b);
      }

  left_out : (block_number b trades (length answers) ≡ 0 → ⊥) → Alike b (block trades answers ∷ after) after
  unfolding history book_after_calls accepted
  left_out refuses =
      record {
        histories = ap₂ (λ (now : List Accepted) (d : Book). now ++ history d after) (ap (accepted b) (refused_counts b trades answers refuses)) (refused_book b trades answers refuses);
        books = ap (λ (d : Book). book_after_calls d after) (refused_book b trades answers refuses);
      }

-- an accepted block has as many trades as answers (02, b, 6)
as_many : (b : Book) (trades : Block) (answers : ℕ) → block_number b trades answers ≡ 0 → length trades.buyers ≡ answers
unfolding block_number some
as_many b trades answers accepts =
    let equal = first_none _ _ (omega arith) (first_none _ _ (omega arith) accepts).1 in
    eqb-true _ _ (not-false _ (or_left (not (eqb (length trades.buyers) answers)) _ equal.0))

-- each answer is that of the single call, and the whole comes to the same (02, b, 3 and 4 and 5)
pub blocks_shown : BlocksShown
unfolding BlocksShown block_answers
blocks_shown b before trades answers after =
    let given = book_after_calls b before in
    record {
      written_out = λ accepts. alike_after b before _ _ (written_out given trades answers after accepts);
      left_out = λ refuses. alike_after b before _ _ (left_out given trades answers after refuses);
      answered = λ accepts i h.
          let n = as_many given trades (length answers) accepts in
          ap (λ (list : List ℕ). entry list i) (sym (written _ _ (offer_numbers given (offers_of trades)) answers refl accepts))
          ∙ offer_number (offers_of trades) given i (offer_at trades 0) (omega (arith, h, n, offers_long trades))
          ∙ ap (λ offer. (offer_answer (book_after_offers given (take i (offers_of trades))) offer).number) (offer_at_lem trades i (omega (arith, h, n)));
    }
