-- Patterns by number: a digit in base two for each section named.
use Rattle.numbers.proofs.Words.{ℕ, zero, suc, ◌+◌, ◌*◌, ◌/◌, ◌%◌, ◌^◌, pow-suc, arith, ◌≡◌, refl, sym, ap, ap₂, ◌∙◌, Bool, true, false, cond, List, [], ◌∷◌, length, eqb, passing, counted, gathered, many}
use Rattle.rules.specs.declared.book.{Book.Book}
use Rattle.numbers.proofs.Counts.{one, many_more, many-same}
use Rattle.rules.specs.Calls.{after_condition}
use Rattle.rules.specs.Failures.{patterns}
use Rattle.pattern_laws.proofs.Ending.{ending_more}
use Rattle.method_patterns.specs.Patterns.{met_in, book_under}

-- of twice as many numbers the even ones and the odd ones
many_halves : (m : ℕ) (test : ℕ → Bool) → many (2 * m) test ≡ many m (λ (q : ℕ). test (2 * q + 1)) + many m (λ (q : ℕ). test (2 * q))
unfolding many counted gathered
many_halves zero test = refl
many_halves (suc m) test =
    let two : 2 * suc m ≡ suc (suc (2 * m)) = omega arith in
    let odd : suc (2 * m) ≡ 2 * m + 1 = omega arith in
    ap (λ (n : ℕ). many n test) two
    ∙ omega
    (arith, many_more (suc (2 * m)) test, many_more (2 * m) test, many_halves m test, many_more m (λ (q : ℕ). test (2 * q + 1)), many_more m (λ (q : ℕ). test (2 * q)), ap (λ (n : ℕ). one (test n)) odd)

-- so the patterns that pass a test are as many as their numbers (02, n, 4)
pub by_number : (test : Book → Bool) (b : Book) (named : List ℕ) → length (passing test (patterns b named)) ≡ many (2 ^ length named) (λ (p : ℕ). test (book_under b named p))
unfolding patterns book_under passing many counted gathered
by_number test b [] = go (test b)
  where
    go : (t : Bool) → length (cond t (b ∷ []) []) ≡ cond t 1 0 + 0
    go true = refl
    go false = refl
by_number test b (i ∷ named) =
    let under : ℕ → Bool = λ (p : ℕ). test (book_under b (i ∷ named) p) in
    let twice : 2 ^ length named * 2 ≡ 2 * 2 ^ length named = omega arith in
    let last : (p r : ℕ) (t : Bool) → p % 2 ≡ r → eqb r 1 ≡ t → met_in p ≡ t = λ p r t e is. ap (λ (m : ℕ). eqb m 1) e ∙ is in
    let digit : (p q : ℕ) (t : Bool) → p / 2 ≡ q → met_in p ≡ t → under p ≡ test (book_under (after_condition b i t) named q) =
    λ p q t half is. ap₂ (λ (m : Bool) (r : ℕ). test (book_under (after_condition b i m) named r)) is half in
    ending_more test i named b
    ∙ ap₂ ◌+◌ (by_number test (after_condition b i true) named) (by_number test (after_condition b i false) named)
    ∙ sym
    (ap (λ (n : ℕ). many n under) (pow-suc 2 (length named) ∙ twice)
    ∙ many_halves (2 ^ length named) under
    ∙ ap₂ ◌+◌ (many-same (2 ^ length named) _ _ (λ q h. digit (2 * q + 1) q true (omega arith) (last (2 * q + 1) 1 true (omega arith) refl)))
    (many-same (2 ^ length named) _ _ (λ q h. digit (2 * q) q false (omega arith) (last (2 * q) 0 false (omega arith) refl))))
