-- The first refusal of a list, and the answer under a number.
use Rattle.numbers.proofs.Words.{ℕ, ◌≡◌, refl, sym, Bool, true, false, not, cond, List, [], ◌∷◌, ◌++◌, eqb, ne_eqb, eqb-false, not-true, every}
use Rattle.rules.specs.declared.book.{Book.Book}
use Rattle.rules.specs.Answers.{Answer}
use Rattle.numbers.proofs.Tests.{both}
use Rattle.rules.specs.Book.{good}
use Rattle.rules.specs.Calls.{Refusal, ◌if◌, first, handed_out, answer}

abbrev made : ℕ → Book → Answer
made number book = record { number = number; book = book }

-- a refused call answers its number and the same book (01, Book, 7)
pub refused : (n number : ℕ) (new old : Book) → n ≡ number → (n ≡ 0 → ⊥) → made n old ≡ answer number new old
refused n number new old e ne = rw (sym e, ne_eqb n 0 ne, handed_out)

-- an accepted one 0 and the new book (01, Book, 6)
pub accepted : (n number : ℕ) (book new old : Book) → n ≡ number → n ≡ 0 → book ≡ new → made n book ≡ answer number new old
accepted n number book new old e z h = rw (sym e, z, h)

-- the same for a list that is lent
pub kept : {A : Type 0} (n number : ℕ) (new old : A) → n ≡ number → (n ≡ 0 → ⊥) → old ≡ handed_out number new old
kept n number new old e ne = rw (sym e, ne_eqb n 0 ne, handed_out)

pub written : {A : Type 0} (n number : ℕ) (new old : A) → n ≡ number → n ≡ 0 → new ≡ handed_out number new old
written n number new old e z = rw (sym e, z)

-- the first refusal of a list, or what the others say
pub says : (number : ℕ) (condition : Bool) (rest : List Refusal) → first (number if condition ∷ rest) ≡ cond condition number (first rest)
unfolding first
says number true rest = refl
says number false rest = refl

pub says_none : first [] ≡ 0
unfolding first
says_none = refl

-- a book that breaks its rules is refused before all else (01, Book, 5)
pub bad_book : (b : Book) (rest : List Refusal) → good b ≡ false → 1 ≡ first (1 if not (good b) ∷ rest)
unfolding first
bad_book b rest e = simp e

-- an accepted call: none of the conditions holds
pub first_none : (r : Refusal) (rest : List Refusal) → (r.number ≡ 0 → ⊥) → first (r ∷ rest) ≡ 0 → (r.condition ≡ false) × (first rest ≡ 0)
unfolding first
first_none r rest ne e = go r.condition refl
  where
    go : (t : Bool) → r.condition ≡ t → (r.condition ≡ false) × (first rest ≡ 0)
    go true h = absurd (ne (rw h at e))
    go false h = (h, rw h at e)

-- the first refusal of two lists, one after the other
pub first_hit : (xs ys : List Refusal) (n : ℕ) → n ≡ first xs → (n ≡ 0 → ⊥) → n ≡ first (xs ++ ys)
unfolding first
first_hit [] ys n e ne = absurd (ne e)
first_hit (r ∷ rs) ys n e ne = go (λ (k : n ≡ first rs). first_hit rs ys n k ne) r.condition refl
  where
    go : (n ≡ first rs → n ≡ first (rs ++ ys)) → (t : Bool) → r.condition ≡ t → n ≡ first ((r ∷ rs) ++ ys)
    go later true h = rw h (rw h at e)
    go later false h = rw h (later (rw h at e))

-- every number of a list is one of a refusal
unfoldable pub numbered : List Refusal → Bool
numbered rs = every (λ (r : Refusal). not (eqb r.number 0)) rs

pub first_pass : (xs ys : List Refusal) → numbered xs ≡ true → first xs ≡ 0 → first (xs ++ ys) ≡ first ys
unfolding first numbered every
first_pass [] ys h e = refl
first_pass (r ∷ rs) ys h e =
    let parts = both (not (eqb r.number 0)) (every (λ (q : Refusal). not (eqb q.number 0)) rs) h in
    let rest = first_none r rs (eqb-false _ _ (not-true _ parts.0)) e in
    rw rest.0 (first_pass rs ys parts.1 rest.1)

pub first_none_append : (xs ys : List Refusal) → numbered xs ≡ true → first (xs ++ ys) ≡ 0 → (first xs ≡ 0) × (first ys ≡ 0)
unfolding first numbered every
first_none_append [] ys h e = (refl, e)
first_none_append (r ∷ rs) ys h e =
    let parts = both (not (eqb r.number 0)) (every (λ (q : Refusal). not (eqb q.number 0)) rs) h in
    let here = first_none r (rs ++ ys) (eqb-false _ _ (not-true _ parts.0)) e in
    let rest = first_none_append rs ys parts.1 here.1 in
    (rw here.0 rest.0, rest.1)
