-- How many patterns of failures end in a way, and that each ends in one of three (02, n, 2 and 3 and 4).
use Rattle.numbers.proofs.Words.{ℕ, ◌+◌, ◌^◌, pow-suc, arith, ◌≡◌, refl, ap, ◌∙◌, Bool, true, false, not, List, [], ◌∷◌, length, length-append, eqb, eqb-true, ◌and◌, passing}
use Rattle.numbers.proofs.Passing.{passing-append}
use Rattle.rules.specs.declared.book.{Book.Book}
use Rattle.rules.specs.Book.{section_at}
use Rattle.rules.specs.Calls.{after_condition}
use Rattle.rules.specs.Expiry.{size}
use Rattle.rules.specs.Failures.{patterns, delivered_in, in_full, not_at_all, in_part}
use Rattle.pattern_laws.proofs.Lists.{three_ways}

-- how many patterns end in a way (02, n, 2)
abbrev pub ending : (Book → Bool) → List ℕ → Book → ℕ
ending ends named b = length (passing ends (patterns b named))

-- with one more section named: those with its condition met, and those with it not met (02, n, 1)
pub ending_more : (ends : Book → Bool) (i : ℕ) (named : List ℕ) (b : Book) → ending ends (i ∷ named) b ≡ ending ends named (after_condition b i true) + ending ends named (after_condition b i false)
unfolding patterns
ending_more ends i named b =
    let met = patterns (after_condition b i true) named in
    let failed = patterns (after_condition b i false) named in
    ap length (passing-append ends met failed) ∙ length-append (passing ends met) (passing ends failed)

-- there are two to the power of the number named (02, n, 4)
patterns_length : (named : List ℕ) (b : Book) → length (patterns b named) ≡ 2 ^ length named
unfolding patterns
patterns_length [] b = refl
patterns_length (i ∷ named) b =
    let met = patterns (after_condition b i true) named in
    let failed = patterns (after_condition b i false) named in
    omega (arith, length-append met failed, patterns_length named (after_condition b i true), patterns_length named (after_condition b i false), pow-suc 2 (length named))

-- a section delivered in full, also with no position, is not one delivered not at all (02, n, 2 and 3)
full_or_none : (asked : ℕ) (b : Book) → in_full asked b ≡ true → not_at_all asked b ≡ false
unfolding in_full not_at_all
full_or_none asked b e =
    let all = size (section_at b asked) in
    ap (λ (n : ℕ). eqb n 0 and not (eqb all 0)) (eqb-true (delivered_in asked b) all e) ∙ never (eqb all 0)
  where
    never : (t : Bool) → (t and not t) ≡ false
    never true = refl
    never false = refl

-- so the three counts of a section come to two to the power of the number named (02, n, 4)
pub all_endings : (asked : ℕ) (named : List ℕ) (b : Book) → ending (in_full asked) named b + ending (in_part asked) named b + ending (not_at_all asked) named b ≡ 2 ^ length named
unfolding in_part
all_endings asked named b = three_ways (in_full asked) (not_at_all asked) (full_or_none asked) (patterns b named) ∙ patterns_length named b
