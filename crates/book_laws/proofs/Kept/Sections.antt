-- A call that changes sections held and the last session, and neither adds a section nor files a notice, leaves a good
-- book where the sections it leaves are good.
use Rattle.numbers.proofs.Words.{ℕ, ◌≤◌, ◌<◌, arith, ◌≡◌, refl, sym, ap, ◌∙◌, true, List, map, length, get_or, set, take, drop, length-set, take-set-lt, drop-set-lt, get_or-take, map-set_same, length-take-le, ℤ, pos, nat_abs, ◌+ℤ◌, every, apart, total_ℤ, same}
use Rattle.rules.specs.declared.book.{Book.Book, Section.Section, LastSession.LastSession}
use Rattle.numbers.proofs.Changed.{apart_read, every_set, every_weaker}
use Rattle.numbers.proofs.Sums.{total_moved}
use Rattle.rules.specs.Book.{position_of, basis_of, basis_most, last_good, section_good, section_blank, held_sections}
use Rattle.book_laws.proofs.Good.{Good, SectionGood, section_facts, section_test}

abbrev pub code_of : Section → List ℕ
code_of s = s.code

-- the book b with these sections, this last session and so many trades since
abbrev pub restated : Book → List Section → LastSession → ℕ → ℕ → Book
restated b sections last price trades =
    record {
      lot = b.lot;
      w = b.w;
      r = b.r;
      sections = sections;
      held = b.held;
      notices = b.notices;
      filed = b.filed;
      last = last;
      price = price;
      trades = trades;
      expired = b.expired;
    }

-- the sections of b, of which those held are changed: their codes stand, they are good, and these are their sums
pub record Changed (b : Book) (sections : List Section) (trades : ℕ) (positions bases : ℤ) : Type 0 where
  pub places : length sections ≡ 128
  pub rest : drop b.held sections ≡ drop b.held b.sections
  pub codes : map code_of (take b.held sections) ≡ map code_of (held_sections b)
  pub good : every (section_good trades) (take b.held sections) ≡ true
  pub positions_sum : total_ℤ (map position_of (take b.held sections)) ≡ positions
  pub bases_sum : total_ℤ (map basis_of (take b.held sections)) ≡ bases

pub restated_good : (b : Book) (sections : List Section) (last : LastSession) (price trades : ℕ) → Good b → Changed b sections trades (pos 0) (pos 0) → last_good last price ≡ true → trades ≤ 2_000 → Good (restated b sections last price trades)
restated_good b sections last price trades book changed last-good few =
    record {
      lot = book.lot;
      w = book.w;
      r = book.r;
      k = book.k;
      section_places_lem = changed.places;
      notice_places_lem = book.notice_places_lem;
      held = book.held;
      filed = book.filed;
      last = last-good;
      trades = few;
      sections = changed.good;
      codes_apart = apart_read code_of same _ ∙ ap (apart same) changed.codes ∙ sym (apart_read code_of same _) ∙ book.codes_apart;
      positions = changed.positions_sum;
      bases = changed.bases_sum;
      notices = book.notices;
      notices_apart = book.notices_apart;
      sections_blank = ap (every section_blank) changed.rest ∙ book.sections_blank;
      notices_blank = book.notices_blank;
    }

-- a section with the settlement and section code of a good one is good where its position and basis are within their limits
pub still_good : {trades : ℕ} {s : Section} → SectionGood trades s → (more : ℕ) (t : Section) → t.settlement ≡ s.settlement → t.code ≡ s.code → nat_abs (position_of t) ≤ 1_000_000 → nat_abs (basis_of t) ≤ basis_most more → section_good more t ≡ true
still_good was more t settlement code position basis =
    section_test more t
    (record {
      settlement = rw settlement was.settlement;
      code_length = rw code was.code_length;
      code_bytes = rw code was.code_bytes;
      position = position;
      basis = basis;
    })

-- as trades are counted
later : (trades more : ℕ) → trades ≤ more → (s : Section) → section_good trades s ≡ true → section_good more s ≡ true
later trades more h s e =
    let was = section_facts trades s e in
    still_good was more s refl refl was.position (omega (arith, was.basis))

-- no section is changed yet
pub unchanged : (b : Book) → Good b → (trades : ℕ) → b.trades ≤ trades → Changed b b.sections trades (pos 0) (pos 0)
unchanged b book trades h =
    record {
      places = book.section_places_lem;
      rest = refl;
      codes = refl;
      good = every_weaker (section_good b.trades) (section_good trades) (later b.trades trades h) (held_sections b) book.sections;
      positions_sum = book.positions;
      bases_sum = book.bases;
    }

-- the section t that stands at number i becomes s, its code the same, its position and basis so much more
pub record Moves (trades : ℕ) (t s : Section) (lots kopecks : ℤ) : Type 0 where
  pub code : s.code ≡ t.code
  pub good : section_good trades s ≡ true
  pub position : position_of s ≡ position_of t +ℤ lots
  pub basis : basis_of s ≡ basis_of t +ℤ kopecks

-- a sum over the first n entries, of which entry i is changed so that z more is read
sum_changed : (f : Section → ℤ) (sections : List Section) (n i : ℕ) (s d : Section) (z whole : ℤ) → i < n → n ≤ length sections → f s ≡ f (get_or sections i d) +ℤ z → total_ℤ (map f (take n sections)) ≡ whole → total_ℤ (map f (take n (set sections i s))) ≡ whole +ℤ z
sum_changed f sections n i s d z whole known fits e was =
    ap (λ (xs : List Section). total_ℤ (map f xs)) (take-set-lt n sections i s known)
    ∙ total_moved f (take n sections) i s d z (omega (arith, length-take-le n sections fits)) (e ∙ ap (λ (t : Section). f t +ℤ z) (sym (get_or-take n sections i d known)))
    ∙ ap (λ (t : ℤ). t +ℤ z) was

pub one_changed : {b : Book} {sections : List Section} {trades : ℕ} {p q : ℤ} → Good b → Changed b sections trades p q → (i : ℕ) → i < b.held → (d s : Section) {x y : ℤ} → Moves trades (get_or sections i d) s x y → Changed b (set sections i s) trades (p +ℤ x) (q +ℤ y)
one_changed {b} {sections} {trades} {p} {q} book was i known d s {x} {y} new =
    let held_set = take-set-lt b.held sections i s known in
    let fits : b.held ≤ length sections = omega (arith, was.places, book.held) in
    record {
      places = length-set sections i s ∙ was.places;
      rest = drop-set-lt b.held sections i s known ∙ was.rest;
      codes = ap (map code_of) held_set ∙ map-set_same code_of (take b.held sections) i s d (new.code ∙ ap code_of (sym (get_or-take b.held sections i d known))) ∙ was.codes;
      good = ap (every (section_good trades)) held_set ∙ every_set (section_good trades) (take b.held sections) i s was.good new.good;
      positions_sum = sum_changed position_of sections b.held i s d x p known fits new.position was.positions_sum;
      bases_sum = sum_changed basis_of sections b.held i s d y q known fits new.basis was.bases_sum;
    }
