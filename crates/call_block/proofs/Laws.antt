-- The number of a block, and that its lists have one length where it is accepted.
use Rattle.numbers.proofs.Words.{ℕ, arith, ◌≡◌, refl, sym, ap, ◌∙◌, Bool, true, false, not, cond, ◌||◌, eqb, eqb-true, eq-eqb, not-false, length, some}
use Rattle.numbers.proofs.Tests.{or_left, or_right}
use Rattle.rules.specs.declared.book.{Book.Book}
use Rattle.rules.specs.Book.{good}
use Rattle.rules.specs.Blocks.{Block, unequal, block_number}
use Rattle.book_laws.proofs.Answers.{says, says_none}
use Rattle.call_block.specs.Lists.{Equal}

-- 29, as the code judges it (02, b, 6)
abbrev pub differing : Block → ℕ → Bool
differing trades n = not (eqb (length trades.buyers) n) || (not (eqb (length trades.sellers) n) || (not (eqb (length trades.prices) n) || not (eqb (length trades.lots) n)))

unequal_is : (trades : Block) (n : ℕ) → unequal trades n ≡ differing trades n
unfolding some
unequal_is trades n = ap (λ (t : Bool). not (eqb (length trades.buyers) n) || (not (eqb (length trades.sellers) n) || (not (eqb (length trades.prices) n) || t))) (last (not (eqb (length trades.lots) n)))
  where
    last : (t : Bool) → (t || false) ≡ t
    last true = refl
    last false = refl

-- 1, then 29 (02, b, 6)
pub block_number_lem : (b : Book) (trades : Block) (n : ℕ) → block_number b trades n ≡ cond (not (good b)) 1 (cond (differing trades n) 29 0)
unfolding block_number
block_number_lem b trades n = rw (sym (unequal_is trades n)) (simp (says, says_none))

-- 0 only where the book is good and the lists do not differ
none_said : (is differ : Bool) → cond {A = ℕ} (not is) 1 (cond differ 29 0) ≡ 0 → (is ≡ true) × (differ ≡ false)
none_said true true e = absurd (omega arith)
none_said true false e = (refl, refl)
none_said false differ e = absurd (omega arith)

-- lists that do not differ have one length
equal : (trades : Block) (n : ℕ) → differing trades n ≡ false → Equal trades n
equal trades n e =
    let a = not (eqb (length trades.buyers) n) in
    let b = not (eqb (length trades.sellers) n) in
    let c = not (eqb (length trades.prices) n) in
    let d = not (eqb (length trades.lots) n) in
    let rest = or_right a (b || (c || d)) e in
    let last = or_right b (c || d) rest in
    record {
      buyers = eqb-true _ _ (not-false _ (or_left a (b || (c || d)) e));
      sellers = eqb-true _ _ (not-false _ (or_left b (c || d) rest));
      prices = eqb-true _ _ (not-false _ (or_left c d last));
      lots = eqb-true _ _ (not-false _ (or_right c d last));
    }

-- so a block is accepted on a good book where its lists are equal, and only there (02, b, 6)
pub block_accepted : (b : Book) (trades : Block) (n : ℕ) → good b ≡ true → Equal trades n → block_number b trades n ≡ 0
block_accepted b trades n is same =
    block_number_lem b trades n ∙ rw (is, eq-eqb _ _ same.buyers, eq-eqb _ _ same.sellers, eq-eqb _ _ same.prices, eq-eqb _ _ same.lots)

pub accepted_block : (b : Book) (trades : Block) (n : ℕ) → block_number b trades n ≡ 0 → (good b ≡ true) × Equal trades n
accepted_block b trades n e =
    let said = none_said (good b) (differing trades n) (sym (block_number_lem b trades n) ∙ e) in
    (said.0, equal trades n said.1)
