-- An accepted section call leaves a good book.
use Rattle.numbers.proofs.Words.{ℕ, ◌+◌, ◌<◌, zero-le, arith, ◌≡◌, refl, ap, ◌∙◌, Bool, true, false, List, [], ◌∷◌, ◌++◌, map, ltb, length, drop, length-set, pos, ltb-true, lt-ltb, le-leb, every, some, apart, total_ℤ}
use Rattle.rules.specs.declared.book.{Book.Book, Section.Section, Notice.Notice}
use Rattle.numbers.proofs.Tests.{both, together}
use Rattle.numbers.proofs.Bytes.{same_sym}
use Rattle.numbers.proofs.Changed.{every_append, every_drop, every_weaker, apart_more, take_more, drop_more}
use Rattle.numbers.proofs.Sums.{total_more}
use Rattle.rules.specs.Book.{good, position_of, basis_of, section_good, basis_most, section_blank, notice_good, section_codes_alike, held_sections, filed_notices}
use Rattle.rules.specs.Calls.{section_number, new_section, with_section}
use Rattle.book_laws.proofs.Accepted.{NewSection, section}
use Rattle.book_laws.proofs.Good.{Good, test}

-- no lots and nothing owed are within every limit
new_good : (trades number : ℕ) (code : List ℕ) (participant : ℕ) (seller : Bool) (b : Book) → NewSection b number code → section_good trades (new_section number code participant seller) ≡ true
unfolding new_section section_good
new_good trades number code participant seller b call =
    together (le-leb _ _ call.settlement) (together call.allowed (together refl (le-leb 0 (basis_most trades) zero-le)))

-- a notice stays good as sections are added
later : (held : ℕ) (n : Notice) → notice_good held n ≡ true → notice_good (held + 1) n ≡ true
unfolding notice_good
later held n e =
    let parts = both (ltb n.section held) _ e in
    together (lt-ltb n.section (held + 1) (omega (arith, ltb-true n.section held parts.0))) parts.1

-- the book with one section more: no other place is touched
module _ (b : Book) (book : Good b) (s : Section) (room : b.held < 128) where
  place : b.held < length b.sections
  place = omega (arith, book.section_places_lem)

  pub more_held : held_sections (with_section b s) ≡ held_sections b ++ (s ∷ [])
  unfolding with_section
  more_held = take_more b.sections b.held s place

  with_good : section_good b.trades s ≡ true → some (section_codes_alike s) (held_sections b) ≡ false → position_of s ≡ pos 0 → basis_of s ≡ pos 0 → Good (with_section b s)
  unfolding with_section every
  with_good sound fresh position basis =
      let held = held_sections b in
      record {
        lot = book.lot;
        w = book.w;
        r = book.r;
        k = book.k;
        section_places_lem = length-set b.sections b.held s ∙ book.section_places_lem;
        notice_places_lem = book.notice_places_lem;
        held = omega arith;
        filed = book.filed;
        last = book.last;
        trades = book.trades;
        sections = ap (every (section_good b.trades)) more_held ∙ every_append (section_good b.trades) held (s ∷ []) book.sections (together sound refl);
        codes_apart = ap (apart section_codes_alike) more_held ∙ apart_more section_codes_alike (λ (t u : Section). same_sym t.code u.code) s held book.codes_apart fresh;
        positions = ap (λ (xs : List Section). total_ℤ (map position_of xs)) more_held ∙ total_more position_of held s position ∙ book.positions;
        bases = ap (λ (xs : List Section). total_ℤ (map basis_of xs)) more_held ∙ total_more basis_of held s basis ∙ book.bases;
        notices = every_weaker (notice_good b.held) (notice_good (b.held + 1)) (later b.held) (filed_notices b) book.notices;
        notices_apart = book.notices_apart;
        sections_blank = ap (every section_blank) (drop_more b.sections b.held s place) ∙ every_drop section_blank 1 (drop b.held b.sections) book.sections_blank;
        notices_blank = book.notices_blank;
      }

pub section_kept : (b : Book) (settlement : ℕ) (code : List ℕ) (participant : ℕ) (seller : Bool) → section_number b settlement code ≡ 0 → good (with_section b (new_section settlement code participant seller)) ≡ true
unfolding new_section
section_kept b settlement code participant seller e =
    let call = section b settlement code e in
    let new = new_section settlement code participant seller in
    test _ (with_good b call.book new call.room (new_good b.trades settlement code participant seller b call) call.fresh refl refl)
