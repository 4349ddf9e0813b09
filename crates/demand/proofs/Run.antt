-- What each accepted call takes on holds after every list of calls: a refused one leaves the book and adds nothing (01, Calls, 3 and 4).
use Rattle.numbers.proofs.Words.{◌≡◌, refl, sym, subst, subst₂, Bool, true, false, cond, List, [], ◌∷◌, ◌++◌, append-nil, append_assoc, eqb, eqb-true, eqb-false}
use Rattle.rules.specs.declared.book.{Book.Book}
use Rattle.rules.specs.History.{Single, Call, Accepted, answer_of, book_after, accepted, book_after_calls, history}
use Rattle.book_laws.proofs.Blocks.{plain, plain_book_lem, plain_history}
use Rattle.demand.proofs.Cut.{more}
use Rattle.demand.proofs.Refused.{same_book}

module _ (P : Book → List Accepted → Type 0) (next : (b : Book) (past : List Accepted) → P b past → (c : Single) → (answer_of b c).number ≡ 0 → P (answer_of b c).book (more past b c)) where
  singly : (calls : List Single) (b : Book) (past : List Accepted) → P b past → P (book_after b calls) (past ++ accepted b calls)
  unfolding book_after accepted
  singly [] b past was = subst (P b) (sym (append-nil past)) was
  singly (c ∷ cs) b past was = go (singly cs new) (eqb (answer_of b c).number 0) refl
    where
      new : Book
      new = (answer_of b c).book

      later : List Accepted
      later = accepted new cs

      go : ((before : List Accepted) → P new before → P (book_after new cs) (before ++ later)) → (t : Bool) → eqb (answer_of b c).number 0 ≡ t → P (book_after new cs) (past ++ cond t (record { book = b; call = c } ∷ later) later)
      go rest true e = subst (P (book_after new cs)) (append_assoc past _ later) (rest (more past b c) (next b past was c (eqb-true _ _ e)))
      go rest false e = rest past (subst (λ (d : Book). P d past) (sym (same_book b c (eqb-false _ _ e))) was)

  -- with blocks in the list, which count as their trades (01, Calls, 3 and 4; 02, b, 5)
  pub run : (calls : List Call) (b : Book) (past : List Accepted) → P b past → P (book_after_calls b calls) (past ++ history b calls)
  run calls b past was = subst₂ (λ (end : Book) (told : List Accepted). P end (past ++ told)) (sym (plain_book_lem calls b)) (sym (plain_history calls b)) (singly (plain b calls) b past was)
