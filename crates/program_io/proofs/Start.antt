-- A program that reads no more than one byte beyond the longest file loses nothing: what comes after those bytes changes no answer.
use Rattle.numbers.proofs.Words.{ℕ, ◌+◌, ◌*◌, ◌≤◌, ◌<◌, arith, ◌≡◌, sym, ap, ◌∙◌, true, List, [], ◌∷◌, take, length, length-take-le, take_all, ⊎_elim, ◌⊎◌, inl, inr, or-true, lt-ltb, ne_eqb}
use Rattle.numbers.proofs.Tests.{below_or_not}
use Rattle.numbers.specs.Text.{bytes, decimal}
use Rattle.rules.specs.File.{events_in, misshapen, Lent, stopped, read_whole}
use Rattle.rules.specs.Listing.{row, printed_with, noughts, printed}

-- longer than 3,800 events are (01, Reading, 1)
pub too_long : (file : List ℕ) → 64_616 < length file → misshapen file ≡ true
unfolding misshapen
too_long file h =
    ⊎_elim (λ (many : 3_800 < events_in file). simp (lt-ltb 3_800 (events_in file) many, or-true))
    (λ (few : events_in file ≤ 3_800). simp (ne_eqb (length file) (16 + 17 * events_in file) (λ e. absurd (omega (arith, e, few, h))), or-true))
    (below_or_not 3_800 (events_in file))

-- what is read is the file, or both are misshapen (01, Reading, 1)
pub start : (file : List ℕ) (most : ℕ) → 64_616 < most → (take most file ≡ file) ⊎ ((misshapen file ≡ true) × (misshapen (take most file) ≡ true))
start file most h =
    ⊎_elim (λ (more : most < length file). inr (too_long file (omega arith), too_long (take most file) (omega (arith, length-take-le most file (omega arith)))))
    (λ (all : length file ≤ most). inl (take_all most file all))
    (below_or_not most (length file))

-- a misshapen file is refused 25 at 0, whatever its bytes (01, Reading, 1 and 2)
bad_read : (file : List ℕ) (lent : Lent) → misshapen file ≡ true → read_whole file lent ≡ stopped 25 0
unfolding read_whole
bad_read file lent e = rw (e, read_whole, e)

bad_printed : (file : List ℕ) → misshapen file ≡ true → printed file ≡ row (bytes "refused" ∷ decimal 25 ∷ decimal 0 ∷ [])
unfolding printed printed_with
bad_printed file e = let refused = bad_read file noughts e in rw (refused, printed_with, refused)

-- and the program prints the same (01, Program, 2)
pub start_printed : (file : List ℕ) (most : ℕ) → 64_616 < most → printed (take most file) ≡ printed file
start_printed file most h =
    ⊎_elim (λ (same : take most file ≡ file). ap printed same)
    (λ (bad : (misshapen file ≡ true) × (misshapen (take most file) ≡ true)). bad_printed (take most file) bad.1 ∙ sym (bad_printed file bad.0))
    (start file most h)
