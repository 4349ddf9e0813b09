-- Lots added to the entries of their sections, one after the other.
use Rattle.numbers.proofs.Words.{ℕ, ◌+◌, ◌*◌, ◌≤◌, ◌<◌, arith, ◌≡◌, refl, ap, ◌∙◌, List, length, set, listed, entry}
use Rattle.numbers.proofs.Ranges.{listed-length}
use Rattle.numbers.proofs.Sums.{naturals}
use Rattle.numbers.proofs.Tally.{onto, onto_none, onto_next, onto_within}
use Rattle.method_laws.specs.Columns.{lots_at, Small}

-- what the first k of them make of the sums that were there
pub record Added (numbers lots was sums : List ℕ) (k : ℕ) : Type 0 where
  pub within : k ≤ length numbers
  pub entries : sums ≡ onto ◌+◌ 0 naturals (entry numbers) (entry lots) (length was) was k

pub added_none : (numbers lots was : List ℕ) → Added numbers lots was was 0
added_none numbers lots was = record { within = omega arith; entries = onto_none ◌+◌ 0 naturals (entry numbers) (entry lots) (length was) was refl }

module _ {numbers lots was sums : List ℕ} {k : ℕ} (so_far : Added numbers lots was sums k) where
  pub added_length : length sums ≡ length was
  added_length = ap length so_far.entries ∙ listed-length (length was) _

  pub added_within : (most : ℕ) → Small lots → ((i : ℕ) → entry was i ≤ most) → (i : ℕ) → entry sums i ≤ most + 1_000_000 * k
  added_within most small few i =
      omega (
        arith,
        ap (λ (xs : List ℕ). entry xs i) so_far.entries,
        onto_within ◌+◌ 0 naturals (entry numbers) (entry lots) (length was) (λ (x : ℕ). x) refl (λ x y. omega arith) 1_000_000 small was most few k i,
      )

  -- one more
  pub added_next : k < length numbers → entry numbers k < length was → (x : ℕ) → x ≡ entry sums (entry numbers k) + entry lots k → Added numbers lots was (set sums (entry numbers k) x) (k + 1)
  added_next here held x is =
      record {
        within = omega (arith, here);
        entries =
            ap (λ (xs : List ℕ). set xs (entry numbers k) x) so_far.entries
            ∙ onto_next ◌+◌ 0 naturals (entry numbers) (entry lots) (length was) was k x held (is ∙ ap (λ (xs : List ℕ). entry xs (entry numbers k) + entry lots k) so_far.entries);
      }

  -- all of them
  pub added_all : length numbers ≤ k → sums ≡ listed (length was) (λ (i : ℕ). entry was i + lots_at numbers lots i)
  added_all past = so_far.entries ∙ ap (onto ◌+◌ 0 naturals (entry numbers) (entry lots) (length was) was) (omega (arith, past, so_far.within))
