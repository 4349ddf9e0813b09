-- The answer is the same in whatever order sections are named: the refusals see no order, and no more do the patterns (02, n, 4 and 5).
use lib.Seq.{set_comm}
use Rattle.numbers.proofs.Words.{ℕ, suc, ◌+◌, arith, ◌≡◌, refl, sym, ap, ap₂, ◌∙◌, Bool, true, false, not, ◌&&◌, ◌||◌, List, [], ◌∷◌, ⊎_elim, length, eqb, ltb, set, some, apart}
use Rattle.numbers.proofs.Tests.{eqb_sym, same_or_not}
use Rattle.rules.specs.declared.book.{Book.Book, Section.Section}
use Rattle.rules.specs.Book.{section_at, with_sections}
use Rattle.rules.specs.Calls.{◌if◌, first, judged, unknown, marked, after_condition}
use Rattle.rules.specs.Failures.{named_most, failures_number, times_named}
use Rattle.book_laws.proofs.Effects.Condition.{condition_other}
use Rattle.pattern_laws.proofs.Ending.{ending, ending_more}
use Rattle.pattern_laws.proofs.Order.{Unordered, any_order}

-- what the refusals read of the sections named: whether one passes a test, how many they are, and whether no two are alike
abbrev Read : Type 0
Read = record { some : (ℕ → Bool) → Bool; length : ℕ; apart : Bool }

abbrev read : List ℕ → Read
read named = record { some = λ (test : ℕ → Bool). some test named; length = length named; apart = apart eqb named }

read_unordered : Unordered read
unfolding some apart
read_unordered =
    record {
      keep = λ i xs ys e.
          let more : Read → Read = λ (r : Read). record { some = λ (test : ℕ → Bool). test i || r.some test; length = suc r.length; apart = not (r.some (eqb i)) && r.apart } in
          ap more e;
      swap = λ i j xs k.
          record {
            some = λ (test : ℕ → Bool). either (test i) (test j) (some test xs) k;
            length = suc (suc (length xs));
            apart = (ap (λ (t : Bool). not (t || some (eqb i) xs) && (not (some (eqb j) xs) && apart eqb xs)) (eqb_sym i j) ∙ neither (eqb j i) (some (eqb i) xs) (some (eqb j) xs) (apart eqb xs)) k;
          };
    }
  where
    either : (a b c : Bool) → (a || (b || c)) ≡ (b || (a || c))
    either true true c = refl
    either true false c = refl
    either false true c = refl
    either false false c = refl

    neither : (t a b c : Bool) → (not (t || a) && (not b && c)) ≡ (not (t || b) && (not a && c))
    neither true a b c = refl
    neither false true true c = refl
    neither false true false c = refl
    neither false false true c = refl
    neither false false false c = refl

-- so the same calls are refused, with the same number (02, n, 5)
pub number_any_order : (b : Book) (asked : ℕ) (named other : List ℕ) → ((i : ℕ) → times_named i named ≡ times_named i other) → failures_number b asked named ≡ failures_number b asked other
unfolding failures_number some
number_any_order b asked named other same =
    ap (λ (r : Read). first (judged b (10 if (unknown b asked || r.some (unknown b)) ∷ 40 if (ltb named_most r.length || not r.apart) ∷ []))) (any_order read read_unordered named other same)

-- the marks of two sections, set one after the other, whichever first (01, Condition, 1)
conditions_swap : (b : Book) (i j : ℕ) (m n : Bool) → (i ≡ j → ⊥) → after_condition (after_condition b i m) j n ≡ after_condition (after_condition b j n) i m
unfolding after_condition
conditions_swap b i j m n other =
    let new : ℕ → Bool → Section = λ (k : ℕ) (met : Bool). marked (section_at b k) met in
    let with : List Section → Book = λ (ss : List Section). with_sections b ss b.held in
    ap (λ (s : Section). with (set (set b.sections i (new i m)) j (marked s n))) (condition_other b i m j (λ e. other (sym e)))
    ∙ ap with (set_comm b.sections i j (new i m) (new j n) other)
    ∙ sym (ap (λ (s : Section). with (set (set b.sections j (new j n)) i (marked s m))) (condition_other b j n i other))

-- so as many patterns end in a way, whichever section is named first (02, n, 1)
module _ (ends : Book → Bool) (xs : List ℕ) (b : Book) where
  abbrev ending_at : ℕ → Bool → ℕ → Bool → ℕ
  ending_at i m j n = ending ends xs (after_condition (after_condition b i m) j n)

  four_parts : (i j : ℕ) → ending ends (i ∷ j ∷ xs) b ≡ (ending_at i true j true + ending_at i true j false) + (ending_at i false j true + ending_at i false j false)
  four_parts i j = ending_more ends i (j ∷ xs) b ∙ ap₂ ◌+◌ (ending_more ends j xs (after_condition b i true)) (ending_more ends j xs (after_condition b i false))

  ending_swap : (i j : ℕ) → ending ends (i ∷ j ∷ xs) b ≡ ending ends (j ∷ i ∷ xs) b
  ending_swap i j =
      ⊎_elim (λ (e : i ≡ j). ap₂ (λ (k l : ℕ). ending ends (k ∷ l ∷ xs) b) e (sym e))
      (λ (other : i ≡ j → ⊥).
      let swapped : (m n : Bool) → ending_at i m j n ≡ ending_at j n i m = λ m n. ap (ending ends xs) (conditions_swap b i j m n other) in
      omega (arith, four_parts i j, four_parts j i, swapped true true, swapped true false, swapped false true, swapped false false))
      (same_or_not i j)

ending_unordered : (ends : Book → Bool) → Unordered (ending ends)
ending_unordered ends =
    record {
      keep = λ i xs ys e k b.
          (ending_more ends i xs b
          ∙ ap (λ (count : Book → ℕ). count (after_condition b i true) + count (after_condition b i false)) e
          ∙ sym (ending_more ends i ys b)) k;
      swap = λ i j xs k b. ending_swap ends xs b i j k;
    }

pub ending_any_order : (ends : Book → Bool) (b : Book) (named other : List ℕ) → ((i : ℕ) → times_named i named ≡ times_named i other) → ending ends named b ≡ ending ends other b
ending_any_order ends b named other same = ap (λ (count : Book → ℕ). count b) (any_order (ending ends) (ending_unordered ends) named other same)
