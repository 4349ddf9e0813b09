-- A section marked: the columns of the book stay, and of what fails one entry changes; so under a pattern.
use Rattle.numbers.proofs.Words.{ℕ, suc, ◌/◌, ◌<◌, arith, ◌≡◌, refl, sym, ap, ap₂, ◌∙◌, Bool, true, false, cond, List, [], ◌∷◌, map, lt-leb, length, get_or, set, length-set, length-map, take-set-lt, get_or-take, get_or-set_same, get_or-set_other, map-set_same, get_or-map, ℤ, listed, entry}
use Rattle.rules.specs.declared.book.{Book.Book, Section.Section}
use Rattle.numbers.proofs.Ranges.{listed_same, listed-length, listed_at, listed-set}
use Rattle.rules.specs.Book.{good, held_sections, filed_notices, section_at, section_of, section_of_noughts}
use Rattle.rules.specs.Calls.{first, marked, condition_number, after_condition}
use Rattle.rules.specs.Expiry.{size}
use Rattle.rules.specs.Expiry.Failing.{noticed, fails, failing}
use Rattle.book_laws.proofs.Good.{facts}
use Rattle.book_laws.proofs.Held.{held_length}
use Rattle.book_laws.proofs.Kept.Condition.{condition_kept}
use Rattle.method_delivery.specs.Lent.{ColumnsOf}
use Rattle.method_columns.specs.Failing.{failed_lots, failing_with}
use Rattle.method_patterns.specs.Patterns.{met_in, book_under, fails_marked, fails_under, Stands, Marks}

-- what fails is said of each section held
pub many_failing : {b : Book} {persons codes : List ℕ} {positions : List ℤ} {keys selling stands stock failed : List ℕ} → Stands b persons codes positions keys selling stands stock failed → length failed ≡ b.held
unfolding failing
many_failing {b} is =
    let book = facts b is.good_book in
    ap length is.failed_are ∙ listed-length (length (held_sections b)) _ ∙ held_length b book.section_places_lem book.held

pub own_long : {b : Book} {persons codes : List ℕ} {positions : List ℤ} {keys selling stands stock failed own still named : List ℕ} → Stands b persons codes positions keys selling stands stock failed → Marks b failed own still named → length own ≡ length failed
own_long {b} is marks =
    let book = facts b is.good_book in
    ap length marks.own_are ∙ length-map (held_sections b) size ∙ held_length b book.section_places_lem book.held ∙ sym (many_failing is)

pub still_long : {b : Book} {persons codes : List ℕ} {positions : List ℤ} {keys selling stands stock failed own still named : List ℕ} → Stands b persons codes positions keys selling stands stock failed → Marks b failed own still named → length still ≡ length failed
still_long {b} is marks =
    let book = facts b is.good_book in
    ap length marks.still_are ∙ listed-length (length (held_sections b)) _ ∙ held_length b book.section_places_lem book.held ∙ sym (many_failing is)

-- with its mark set: all lots of a section, or those that fail still
marked_lots : (s : Section) (lots : ℕ) (met : Bool) → failed_lots false (marked s met) lots ≡ cond met (failed_lots true s lots) (size s)
unfolding marked
marked_lots s lots true = refl
marked_lots s lots false = refl

module _ (b : Book) (is_good : good b ≡ true) (unexpired : b.expired ≡ false) (i : ℕ) (known : i < b.held) (met : Bool) where
  abbrev next : Book
  next = after_condition b i met

  -- the call that sets the mark is accepted, so the book stays good (01, Condition, 1)
  accepted : condition_number b i ≡ 0
  unfolding first condition_number
  accepted = simp (is_good, unexpired, lt-leb b.held i known)

  next_good : good next ≡ true
  next_good = condition_kept b i met accepted

  held_next : held_sections next ≡ set (held_sections b) i (marked (section_at b i) met)
  unfolding after_condition
  held_next = take-set-lt b.held b.sections i (marked (section_at b i) met) known

  -- whatever is read of the sections but their marks is as it was
  read_next : {A : Type 0} (f : Section → A) → ((s : Section) → f (marked s met) ≡ f s) → map f (held_sections next) ≡ map f (held_sections b)
  read_next f same =
      let none = section_of_noughts [] in
      ap (map f) held_next
      ∙ map-set_same f (held_sections b) i (marked (section_at b i) met) none (same (section_at b i) ∙ ap f (sym (get_or-take b.held b.sections i none known)))

  next_columns : {codes : List ℕ} {positions : List ℤ} {keys sellers stands lots : List ℕ} → ColumnsOf b codes positions keys sellers stands lots → ColumnsOf next codes positions keys sellers stands lots
  unfolding after_condition marked
  next_columns e =
      record {
        codes_are = e.codes_are ∙ sym (read_next _ (λ s. refl));
        positions_are = e.positions_are ∙ sym (read_next _ (λ s. refl));
        keys_are = e.keys_are ∙ sym (read_next _ (λ s. refl));
        filed = e.filed;
      }

  many_held : length (held_sections b) ≡ b.held
  many_held = let book = facts b is_good in held_length b book.section_places_lem book.held

  next_held : length (held_sections next) ≡ length (held_sections b)
  next_held = ap length held_next ∙ length-set (held_sections b) i (marked (section_at b i) met)

  -- section i is marked, every other is as it was
  here : section_of (held_sections next) i ≡ marked (section_of (held_sections b) i) met
  here =
      let none = section_of_noughts [] in
      ap (λ (ss : List Section). section_of ss i) held_next
      ∙ get_or-set_same (held_sections b) i (marked (section_at b i) met) none (omega (arith, known, many_held))
      ∙ ap (λ (s : Section). marked s met) (sym (get_or-take b.held b.sections i none known))

  other : (j : ℕ) → (j ≡ i → ⊥) → section_of (held_sections next) j ≡ section_of (held_sections b) j
  other j differs = ap (λ (ss : List Section). section_of ss j) held_next ∙ get_or-set_other (held_sections b) i j (marked (section_at b i) met) (section_of_noughts []) differs

  -- so is what is read of each of them
  each_next : {A : Type 0} (f : Section → A) → ((s : Section) → f (marked s met) ≡ f s) → (j : ℕ) → f (section_of (held_sections next) j) ≡ f (section_of (held_sections b) j)
  each_next {A} f same j =
      let none = section_of_noughts [] in
      sym (get_or-map f (held_sections next) j none) ∙ ap (λ (ys : List A). get_or ys j (f none)) (read_next f same) ∙ get_or-map f (held_sections b) j none

  still_next : failing_with true b ≡ failing_with true next
  unfolding after_condition marked
  still_next =
      let ns = filed_notices b in
      listed_same (length (held_sections b)) _ _ (λ j h. sym (each_next (λ (s : Section). failed_lots true s (noticed ns j)) (λ s. refl) j))
      ∙ ap (λ (n : ℕ). listed n (λ (j : ℕ). failed_lots true (section_of (held_sections next) j) (noticed ns j))) (sym next_held)

  -- one entry of what fails changes (01, Expiry, 1.1)
  failing_next : set (failing (held_sections b) (filed_notices b)) i (cond met (failed_lots true (section_of (held_sections b) i) (noticed (filed_notices b) i)) (size (section_of (held_sections b) i))) ≡ failing (held_sections next) (filed_notices next)
  unfolding failing fails after_condition
  failing_next =
      let ns = filed_notices b in
      let lots : List Section → ℕ → ℕ = λ (ss : List Section) (j : ℕ). failed_lots false (section_of ss j) (noticed ns j) in
      listed-set (length (held_sections b)) (lots (held_sections b)) (lots (held_sections next)) _ i (omega (arith, known, many_held))
      (λ j h differs. ap (λ (s : Section). failed_lots false s (noticed ns j)) (other j differs))
      (ap (λ (s : Section). failed_lots false s (noticed ns i)) here ∙ marked_lots (section_of (held_sections b) i) (noticed ns i) met)
      ∙ ap (λ (n : ℕ). listed n (lots (held_sections next))) (sym next_held)

  -- the columns stand behind the book with the mark
  module _ {persons codes : List ℕ} {positions : List ℤ} {keys selling stands stock failed own still named : List ℕ} (is : Stands b persons codes positions keys selling stands stock failed) (marks : Marks b failed own still (i ∷ named)) where
    pub next_stands : Stands next persons codes positions keys selling stands stock (fails_marked own still failed i met)
    unfolding marked
    next_stands =
        let ss = held_sections b in
        let place : i < length ss = omega (arith, known, many_held) in
        let fails_still = ap (λ (l : List ℕ). entry l i) marks.still_are ∙ listed_at (length ss) (λ (j : ℕ). failed_lots true (section_of ss j) (noticed (filed_notices b) j)) i 0 place in
        let fails_whole = ap (λ (l : List ℕ). entry l i) marks.own_are ∙ get_or-map size ss i (section_of_noughts []) in
        record {
          good_book = next_good;
          columns = next_columns is.columns;
          persons_are = is.persons_are ∙ sym (read_next _ (λ s. refl));
          failed_are = ap₂ (λ (l : List ℕ) (x : ℕ). set l i x) is.failed_are (ap₂ (λ (x y : ℕ). cond met x y) fails_still fails_whole) ∙ failing_next;
        }

    pub next_marks : Marks next (fails_marked own still failed i met) own still named
    unfolding after_condition marked
    next_marks =
        record {
          unexpired = unexpired;
          own_are = marks.own_are ∙ sym (read_next size (λ s. refl));
          still_are = marks.still_are ∙ still_next;
          known = λ k h. omega (arith, marks.known (suc k) (omega (arith, h)), length-set failed i (cond met (entry still i) (entry own i)));
        }

-- the columns stand behind the book under a pattern, with what fails then (02, n, 1)
pub under_stands : {persons codes : List ℕ} {positions : List ℤ} {keys selling stands stock failed own still : List ℕ} (b : Book) (named : List ℕ) (p : ℕ)
    → Stands b persons codes positions keys selling stands stock failed → Marks b failed own still named
    → Stands (book_under b named p) persons codes positions keys selling stands stock (fails_under own still failed named p)
unfolding book_under fails_under
under_stands b [] p is marks = is
under_stands {failed = failed} {own = own} {still = still} b (i ∷ named) p is marks =
    let held = many_failing is in
    let known : i < b.held = omega (arith, marks.known 0 (omega arith), held) in
    under_stands {failed = fails_marked own still failed i (met_in p)} _ named (p / 2) (next_stands b is.good_book marks.unexpired i known (met_in p) is marks) (next_marks b is.good_book marks.unexpired i known (met_in p) is marks)
