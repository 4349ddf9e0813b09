-- The words resolved one after the other, and the call by the first of them and the others.
use Rattle.numbers.proofs.Words.{ℕ, ◌+◌, ◌-◌, ◌≤◌, ◌<◌, add-one, arith, ◌≡◌, refl, sym, ap, ap₂, subst, subst₂, ◌∙◌, true, List, [], ◌∷◌, ◌++◌, map, map-append, length, length-map, length-append, take, drop, take_at, take_all, take-suc-set, set, replicate, length-replicate, entry}
use Rattle.rules.specs.declared.book.{Book.Book}
use Rattle.rules.specs.Answers.{Answer}
use Rattle.rules.specs.Book.{good, held_sections}
use Rattle.rules.specs.Failures.{failures_answer, section_meant, answer_row, failures_printed}
use Rattle.rules.specs.Listing.{refusal_row}
use Rattle.io.specs.Counts.{IsPrefixLen}
use Rattle.listing.specs.Laid.{Laid}
use Rattle.method_laws.specs.Columns.{keys_of}
use Rattle.file_present.specs.Present.{present_of}
use Rattle.failures.specs.Prints.{Resolved, row_for, Prints}
use Rattle.failures.proofs.Laws.Printed.{prints_answer, prints_refusal}

pub none_resolved : (keys : List ℕ) → Resolved keys []
none_resolved keys = record { words = []; as_many = refl; each = λ b is e. refl }

-- one word more
pub one_resolved : {keys : List ℕ} (meant : List ℕ) (i : ℕ) → Resolved keys (take i meant) → i < length meant → (word : List ℕ) {m : ℕ}
    → ((b : Book) → good b ≡ true → keys ≡ keys_of (held_sections b) → m ≡ section_meant b word) → Resolved keys (take (i + 1) (set meant i m))
one_resolved {keys} meant i r h word {m} means =
    let next : take (i + 1) (set meant i m) ≡ take i meant ++ (m ∷ []) = ap (λ (n : ℕ). take n (set meant i m)) (add-one i) ∙ take-suc-set meant i m h in
    record {
      words = r.words ++ (word ∷ []);
      as_many = length-append r.words (word ∷ []) ∙ ap (λ (n : ℕ). n + 1) r.as_many ∙ sym (ap length next ∙ length-append (take i meant) (m ∷ []));
      each = λ b is e. next ∙ ap₂ (λ (ms : List ℕ) (n : ℕ). ms ++ (n ∷ [])) (r.each b is e) (means b is e) ∙ sym (map-append (section_meant b) r.words (word ∷ []));
    }

pub all_resolved : {keys : List ℕ} (meant : List ℕ) (i : ℕ) → Resolved keys (take i meant) → length meant ≤ i → Resolved keys meant
all_resolved {keys} meant i r past = subst (Resolved keys) (take_all i meant past) r

-- the call: the first is the section asked, the others are those named
module _ (b : Book) (is : good b ≡ true) {count : ℕ} (some : 0 < count) {was now : List ℕ} {written : ℕ} (within : IsPrefixLen written now) where
  pub row_prints : {keys : List ℕ} → keys ≡ keys_of (held_sections b) → {front : List ℕ} (rest : List ℕ) → Resolved keys front → length front ≡ count
      → (first : ℕ) (others : List ℕ) → Laid was 0 (answer_row (failures_answer b first others)) now written
      → first ≡ entry (front ++ rest) 0 → others ≡ take (count - 1) (drop 1 (front ++ rest)) → Prints (row_for b) count was now written
  row_prints {keys} e {front} rest r full first others laid at_first after = go r.words r.as_many (r.each b is e)
    where
      go : (words : List (List ℕ)) → length words ≡ length front → front ≡ map (section_meant b) words → Prints (row_for b) count was now written
      go [] as_many each = absurd (omega (arith, some, full, as_many))
      go (asked ∷ named) as_many each =
          let tail = take_at (map (section_meant b) named) rest (count - 1) (omega (arith, length-map named (section_meant b), as_many, full)) in
          let asked_is : first ≡ section_meant b asked = at_first ∙ ap (λ (ms : List ℕ). entry (ms ++ rest) 0) each in
          let named_are : others ≡ map (section_meant b) named = after ∙ ap (λ (ms : List ℕ). take (count - 1) (drop 1 (ms ++ rest))) each ∙ tail in
          record {
            asked = asked;
            named = named;
            as_many = omega (arith, as_many, full);
            laid = subst₂ (λ (m : ℕ) (ms : List ℕ). Laid was 0 (answer_row (failures_answer b m ms)) now written) asked_is named_are laid;
            within = within;
          }

-- of a file that is not refused its book's row is printed, of a refused one its refusal (02, n, 2 and 5)
module _ (file : List ℕ) {a : Answer} (e : a ≡ present_of file) {count : ℕ} {was now : List ℕ} {written : ℕ} where
  pub file_prints : a.number ≡ 0 → Prints (row_for a.book) count was now written → Prints (failures_printed file) count was now written
  file_prints none p =
      record {
        asked = p.asked;
        named = p.named;
        as_many = p.as_many;
        laid = subst (λ (text : List ℕ). Laid was 0 text now written) (ap (λ (x : Answer). row_for x.book p.asked p.named) e ∙ sym (prints_answer file p.asked p.named (ap (λ (x : Answer). x.number) (sym e) ∙ none))) p.laid;
        within = p.within;
      }

  pub refusal_prints : (a.number ≡ 0 → ⊥) → 0 < count → IsPrefixLen written now → Laid was 0 (refusal_row a.number) now written → Prints (failures_printed file) count was now written
  refusal_prints refuses some within laid =
      let named : List (List ℕ) = replicate (count - 1) [] in
      let many : length named ≡ count - 1 = length-replicate (count - 1) [] in
      record {
        asked = [];
        named = named;
        as_many = omega (arith, some, many);
        laid = subst (λ (text : List ℕ). Laid was 0 text now written) (ap (λ (x : Answer). refusal_row x.number) e ∙ sym (prints_refusal file [] named (λ z. refuses (ap (λ (x : Answer). x.number) e ∙ z)))) laid;
        within = within;
      }
