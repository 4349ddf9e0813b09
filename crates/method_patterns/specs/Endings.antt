-- How many patterns end in each way, by what they deliver of the lots that a section has.
use Rattle.std.specs.Prelude.{ℕ, ◌≡◌, Bool, not, ◌||◌, eqb}
use Rattle.rules.specs.Words.{◌and◌, many}
use Rattle.rules.specs.declared.book.{Failures.Failures}

-- in full, not at all, in part (02, n, 2 and 3)
abbrev pub all_of : ℕ → ℕ → Bool
all_of own lots = eqb lots own

abbrev pub none_of : ℕ → ℕ → Bool
none_of own lots = eqb lots 0 and not (eqb own 0)

abbrev pub some_of : ℕ → ℕ → Bool
some_of own lots = not (all_of own lots || none_of own lots)

-- the first so many patterns are counted; pattern q delivers `lots q` (02, n, 4)
pub record Counted (own : ℕ) (lots : ℕ → ℕ) (patterns : ℕ) (c : Failures) : Type 0 where
  pub full : c.full ≡ many patterns (λ (q : ℕ). all_of own (lots q))
  pub part : c.part ≡ many patterns (λ (q : ℕ). some_of own (lots q))
  pub none : c.none ≡ many patterns (λ (q : ℕ). none_of own (lots q))
