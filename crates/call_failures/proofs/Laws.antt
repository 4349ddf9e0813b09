-- The number and the answer of the call, as its code comes by them.
use Rattle.numbers.proofs.Words.{ℕ, zero, suc, ◌/◌, ◌^◌, arith, ◌≡◌, refl, sym, ap, ◌∙◌, Bool, true, false, not, cond, ◌||◌, List, [], ◌∷◌, leb, ltb, leb-false, eqb, length, some, passing, apart, many}
use Rattle.rules.specs.declared.book.{Book.Book, Failures.Failures}
use Rattle.numbers.proofs.Counts.{many-same}
use Rattle.numbers.proofs.Tests.{or_left, or_right}
use Rattle.std.specs.List.{list_any}
use Rattle.rules.specs.Book.{good, section_at}
use Rattle.rules.specs.Calls.{Refusal, ◌if◌, first, count, marked, after_condition}
use Rattle.rules.specs.Expiry.{size}
use Rattle.rules.specs.Failures.{patterns, delivered_in, in_full, in_part, not_at_all, failures_number, failures_answer}
use Rattle.book_laws.proofs.Answers.{says, says_none, written}
use Rattle.book_laws.proofs.Effects.Condition.{condition_read}
use Rattle.method_laws.specs.Columns.{Below}
use Rattle.method_patterns.specs.Patterns.{met_in, book_under}
use Rattle.method_patterns.specs.Endings.{all_of, some_of, none_of, Counted}
use Rattle.method_patterns.proofs.Laws.Numbered.{by_number}

-- the refusals in their order, on a good book (02, n, 5)
pub failures_number_lem : (b : Book) (asked : ℕ) (named : List ℕ) → good b ≡ true
    → failures_number b asked named ≡ cond b.expired 5 (cond (leb b.held asked || some (leb b.held) named) 10 (cond (ltb 10 (length named) || not (apart eqb named)) 40 0))
unfolding failures_number some
failures_number_lem b asked named is_good =
    let unknown_one = leb b.held asked || some (leb b.held) named in
    let unfit = ltb 10 (length named) || not (apart eqb named) in
    let own : List Refusal = 10 if unknown_one ∷ 40 if unfit ∷ [] in
    let last = says 40 unfit [] ∙ ap (cond unfit 40) says_none in
    let later = says 10 unknown_one (40 if unfit ∷ []) ∙ ap (cond unknown_one 10) last in
    says 1 (not (good b)) (5 if b.expired ∷ own)
    ∙ ap (λ (t : Bool). cond (not t) 1 (first (5 if b.expired ∷ own))) is_good
    ∙ says 5 b.expired own
    ∙ ap (cond b.expired 5) later

-- what the library's `any` answers of a test, in the definitions' words
pub any_some : {A : Type 0} (test : A → Bool) (xs : List A) → list_any test xs ≡ some test xs
unfolding some
any_some test [] = refl
any_some test (x ∷ xs) = ap (λ (t : Bool). test x || t) (any_some test xs)

-- the section asked has as many lots under every pattern
size_under : (b : Book) (named : List ℕ) (p asked : ℕ) → size (section_at (book_under b named p) asked) ≡ size (section_at b asked)
unfolding book_under marked
size_under b [] p asked = refl
size_under b (i ∷ named) p asked = size_under (after_condition b i (met_in p)) named (p / 2) asked ∙ condition_read b i (met_in p) size (λ s. refl) asked

-- so the patterns that end in a way are as many as the numbers counted (02, n, 4)
ends_counted : (b : Book) (asked : ℕ) (named : List ℕ) (ends : Book → Bool) (test : ℕ → ℕ → Bool)
    → ((c : Book) → ends c ≡ test (size (section_at c asked)) (delivered_in asked c))
    → many (2 ^ length named) (λ (q : ℕ). test (size (section_at b asked)) (delivered_in asked (book_under b named q))) ≡ length (passing ends (patterns b named))
ends_counted b asked named ends test same =
    sym
    (by_number ends b named
    ∙ many-same (2 ^ length named) _ _ (λ q h. same (book_under b named q) ∙ ap (λ (own : ℕ). test own (delivered_in asked (book_under b named q))) (size_under b named q asked)))

pub answer_accepted : (b : Book) (asked : ℕ) (named : List ℕ) (c : Failures) → 0 ≡ failures_number b asked named
    → Counted (size (section_at b asked)) (λ (q : ℕ). delivered_in asked (book_under b named q)) (2 ^ length named) c
    → record { number = 0; full = c.full; part = c.part; none = c.none } ≡ failures_answer b asked named
unfolding failures_answer in_full in_part not_at_all
answer_accepted b asked named c is counted =
    let here : (x : ℕ) (ends : Book → Bool) → x ≡ length (passing ends (patterns b named)) → x ≡ count (failures_number b asked named) (passing ends (patterns b named)) =
    λ x ends e. e ∙ written 0 _ _ 0 is refl in
    λ k. record {
      number = is k;
      full = here _ (in_full asked) (counted.full ∙ ends_counted b asked named (in_full asked) all_of (λ b. refl)) k;
      part = here _ (in_part asked) (counted.part ∙ ends_counted b asked named (in_part asked) some_of (λ b. refl)) k;
      none = here _ (not_at_all asked) (counted.none ∙ ends_counted b asked named (not_at_all asked) none_of (λ b. refl)) k;
    }

-- no section named is unknown, so each is held
pub named_below : (held : ℕ) (named : List ℕ) → some (leb held) named ≡ false → Below held named
unfolding some
named_below held [] e k h = absurd (omega (arith, h))
named_below held (i ∷ named) e zero h = leb-false held i (or_left (leb held i) (some (leb held) named) e)
named_below held (i ∷ named) e (suc k) h = named_below held named (or_right (leb held i) (some (leb held) named) e) k (omega (arith, h))
