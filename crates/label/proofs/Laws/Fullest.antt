-- A label that counts as many bytes as any can: 128 sections and 382 rows, the widest numbers in all of them (02, m, 3).
use Rattle.numbers.proofs.Words.{ℕ, ◌+◌, ◌/◌, ◌%◌, ◌≤◌, ◌<◌, arith, ◌≡◌, refl, subst⁻¹, ⊎_elim, false, [], ◌∷◌, map, flat_map, replicate, get_or, get_or-replicate, length-replicate, ℤ, pos, negsuc, nat_abs, counted, entry}
use Rattle.numbers.proofs.Tests.{below_or_not}
use Rattle.numbers.proofs.Ranges.{get_d_past}
use Rattle.numbers.specs as numbers
use Rattle.rules.specs as rules
use Rattle.rules.specs.declared.book.{Section.Section, Book.Book}
use Rattle.rules.specs.Book.{opened, with_sections}
use Rattle.rules.specs.File.{Lent}
use Rattle.rules.specs.Label.{label_answer, Widths, listing_most}

-- a section with the code A000000 and its number
abbrev section_of : ℕ → Section
section_of i =
    record {
      settlement = 0;
      code = 65 ∷ 48 ∷ 48 ∷ 48 ∷ (48 + i / 100) ∷ (48 + i / 10 % 10) ∷ (48 + i % 10) ∷ [];
      participant = 0;
      seller = false;
      met = false;
      position = record { 0 = pos 0 };
      basis = record { 0 = pos 0 };
    }

abbrev pub fullest_book : Book
fullest_book = with_sections (opened 1_000 1 1) (map section_of (counted 0 128)) 128

abbrev pub fullest_lists : Lent
fullest_lists =
    record {
      lists =
          record {
            buyers = replicate 382 0;
            elevators = replicate 382 31;
            sellers = replicate 382 1;
            lots = replicate 382 1_000_000;
            delivered = replicate 128 4_294_967_295;
            terminated = replicate 128 4_294_967_295;
            lapsed = replicate 128 4_294_967_295;
          };
      sums = replicate 128 (negsuc 9_223_372_036_854_775_807);
    }

-- it is not refused, and its bytes are counted (02, m, 3)
pub fullest : label_answer fullest_book fullest_lists ≡ record { number = 0; bytes = listing_most }
unfolding flat_map numbers.Lists.computed numbers.Sums.computed numbers.Bytes.computed numbers.Little.computed numbers.Text.computed rules.Units.computed rules.Rounding.computed rules.Value.computed rules.Book.computed rules.Calls.computed rules.Listing.computed rules.Label.computed
fullest = refl

-- what holds of a number and of nought holds of each entry of a list of that number
at_all : {A : Type 0} (P : A → Type 0) (n : ℕ) (x d : A) → P x → P d → (i : ℕ) → P (get_or (replicate n x) i d)
at_all P n x d h k i =
    ⊎_elim (λ (l : i < n). subst⁻¹ P (get_or-replicate n i x d l) h)
    (λ (l : n ≤ i). subst⁻¹ P (get_d_past (replicate n x) i d (omega (arith, l, length-replicate n x))) k)
    (below_or_not i n)

pub fullest_wide : Widths fullest_lists
fullest_wide =
    let lots : (i : ℕ) → entry (replicate 128 4_294_967_295) i ≤ 4_294_967_295 = at_all (λ (m : ℕ). m ≤ 4_294_967_295) 128 4_294_967_295 0 (omega arith) (omega arith) in
    record {
      delivered = lots;
      terminated = lots;
      lapsed = lots;
      sums = at_all (λ (z : ℤ). nat_abs z ≤ 9_223_372_036_854_775_808) 128 (negsuc 9_223_372_036_854_775_807) (pos 0) (omega arith) (omega arith);
    }
