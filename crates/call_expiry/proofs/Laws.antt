-- The number of an expiry.
use Rattle.numbers.proofs.Words.{ℕ, ◌≡◌, refl, ap₂, Bool, true, false, not, cond, ◌||◌, eqb, ◌∷◌, [], some}
use Rattle.numbers.specs.Lists.{shorter}
use Rattle.rules.specs.declared.book.{Book.Book}
use Rattle.rules.specs.Book.{good}
use Rattle.rules.specs.Calls.{first}
use Rattle.rules.specs.Expiry.Call.{Lists, day_last, expiry_refusals}
use Rattle.book_laws.proofs.Answers.{says, says_none}

-- the number of an expiry on a good book, test after test (01, Expiry call, 1)
abbrev pub by_tests : Bool → Bool → Bool → Bool → ℕ
by_tests expired too-early register-short sections-short = cond expired 5 (cond too-early 22 (cond register-short 23 (cond sections-short 24 0)))

-- of the last entry
some_last : {A : Type 0} (test : A → Bool) (x : A) → some test (x ∷ []) ≡ test x
unfolding some
some_last test x = go (test x)
  where
    go : (t : Bool) → (t || false) ≡ t
    go true = refl
    go false = refl

pub expiry_number_lem : (b : Book) (ls : Lists) → good b ≡ true
    → first (expiry_refusals b ls) ≡ by_tests b.expired (not (day_last b.last) || not (eqb b.trades 0)) (shorter 382 ls.buyers || (shorter 382 ls.elevators || (shorter 382 ls.sellers || shorter 382 ls.lots))) (shorter b.held ls.delivered || (shorter b.held ls.terminated || shorter b.held ls.lapsed))
unfolding expiry_refusals some
expiry_number_lem b ls e =
    simp (says, says_none, e)
    (ap₂ (λ (lots lapsed : Bool). by_tests b.expired (not (day_last b.last) || not (eqb b.trades 0)) (shorter 382 ls.buyers || (shorter 382 ls.elevators || (shorter 382 ls.sellers || lots))) (shorter b.held ls.delivered || (shorter b.held ls.terminated || lapsed))) (some_last (shorter 382) ls.lots) (some_last (shorter b.held) ls.lapsed))
