-- The rules of the book as records of facts, and the law between them and the test `good`.
use Rattle.numbers.proofs.Words.{ℕ, ◌≤◌, ◌<◌, arith, ◌≡◌, ap, true, false≢true, map, leb, ltb, eqb, length, drop, ℤ, pos, negsuc, nat_abs, le_z, ltb-true, leb-true, le-leb, eqb-true, eq-eqb, between, within, every, apart, total_ℤ}
use Rattle.rules.specs.declared.book.{Book.Book, Section.Section, Notice.Notice}
use Rattle.numbers.proofs.Tests.{both, together}
use Rattle.numbers.proofs.Whole.{within_zero}
use Rattle.rules.specs.Value.{factor}
use Rattle.rules.specs.Book

-- n lies from low to high
pub record Between (low high n : ℕ) : Type 0 where
  pub least : low ≤ n
  pub most : n ≤ high

pub between_facts : (low high n : ℕ) → between low high n ≡ true → Between low high n
between_facts low high n e =
    let parts = both (leb low n) (leb n high) e in
    record { least = leb-true low n parts.0; most = leb-true n high parts.1 }

pub between_test : {low high n : ℕ} → Between low high n → between low high n ≡ true
between_test h = together (le-leb _ _ h.least) (le-leb _ _ h.most)

-- a section held
pub record SectionGood (trades : ℕ) (s : Section) : Type 0 where
  pub settlement : s.settlement ≤ 63
  pub code_length : length s.code ≡ 7
  pub code_bytes : every Book.byte_good s.code ≡ true
  pub position : nat_abs (Book.position_of s) ≤ 1_000_000
  pub basis : nat_abs (Book.basis_of s) ≤ Book.basis_most trades

pub section_facts : (trades : ℕ) (s : Section) → Book.section_good trades s ≡ true → SectionGood trades s
unfolding Book.section_good
section_facts trades s e =
    let settlement = both (leb s.settlement 63) _ e in
    let code = both (Book.section_code_good s.code) _ settlement.1 in
    let bytes = both (eqb (length s.code) 7) (every Book.byte_good s.code) code.0 in
    let rest = both (within (Book.position_of s) 1_000_000) (within (Book.basis_of s) (Book.basis_most trades)) code.1 in
    record {
      settlement = leb-true _ _ settlement.0;
      code_length = eqb-true _ _ bytes.0;
      code_bytes = bytes.1;
      position = leb-true _ _ rest.0;
      basis = leb-true _ _ rest.1;
    }

pub section_test : (trades : ℕ) (s : Section) → SectionGood trades s → Book.section_good trades s ≡ true
unfolding Book.section_good
section_test trades s h =
    together (le-leb _ _ h.settlement) (together (together (eq-eqb _ _ h.code_length) h.code_bytes) (together (le-leb _ _ h.position) (le-leb _ _ h.basis)))

-- a notice filed
pub record NoticeGood (held : ℕ) (n : Notice) : Type 0 where
  pub section : n.section < held
  pub elevator : n.elevator < 32
  pub lots : nat_abs n.lots.0 ≤ 1_000_000

few : (z : ℤ) → le_z (pos 1) z ≡ true → le_z z (pos 1_000_000) ≡ true → nat_abs z ≤ 1_000_000
few (pos n) least most = leb-true n 1_000_000 most
few (negsuc n) least most = absurd (false≢true least)

pub notice_facts : (held : ℕ) (n : Notice) → Book.notice_good held n ≡ true → NoticeGood held n
unfolding Book.notice_good
notice_facts held n e =
    let section = both (ltb n.section held) _ e in
    let elevator = both (leb n.elevator 31) _ section.1 in
    let lots = both (le_z (pos 1) n.lots.0) (le_z n.lots.0 (pos 1_000_000)) elevator.1 in
    record {
      section = ltb-true _ _ section.0;
      elevator = omega (arith, leb-true n.elevator 31 elevator.0);
      lots = few n.lots.0 lots.0 lots.1;
    }

-- the whole book
pub record Good (b : Book) : Type 0 where
  pub lot : Between 1 1_000 b.lot.0
  pub w : Between 1 1_000_000 b.w
  pub r : Between 1 1_000_000 b.r
  pub k : Between 1 10_000_000 (factor b.w b.r)
  pub section_places_lem : length b.sections ≡ 128
  pub notice_places_lem : length b.notices ≡ 256
  pub held : b.held ≤ 128
  pub filed : b.filed ≤ 256
  pub last : Book.last_good b.last b.price ≡ true
  pub trades : b.trades ≤ 2_000
  pub sections : every (Book.section_good b.trades) (Book.held_sections b) ≡ true
  pub codes_apart : apart Book.section_codes_alike (Book.held_sections b) ≡ true
  pub positions : total_ℤ (map Book.position_of (Book.held_sections b)) ≡ pos 0
  pub bases : total_ℤ (map Book.basis_of (Book.held_sections b)) ≡ pos 0
  pub notices : every (Book.notice_good b.held) (Book.filed_notices b) ≡ true
  pub notices_apart : apart Book.notices_alike (Book.filed_notices b) ≡ true
  pub sections_blank : every Book.section_blank (drop b.held b.sections) ≡ true
  pub notices_blank : every Book.notice_blank (drop b.filed b.notices) ≡ true

zero_within : {z : ℤ} → z ≡ pos 0 → within z 0 ≡ true
zero_within e = ap (λ (z : ℤ). within z 0) e

pub facts : (b : Book) → Book.good b ≡ true → Good b
unfolding Book.good Book.terms_good Book.places_good Book.sections_good Book.notices_good Book.tails_blank
facts b e =
    let terms = both (Book.terms_good b) _ e in
    let places = both (Book.places_good b) _ terms.1 in
    let last = both (Book.last_good b.last b.price) _ places.1 in
    let trades = both (leb b.trades 2_000) _ last.1 in
    let sections = both (Book.sections_good b) _ trades.1 in
    let notices = both (Book.notices_good b) (Book.tails_blank b) sections.1 in
    let blank = both (every Book.section_blank (drop b.held b.sections)) _ notices.1 in
    let lot = both (Book.lot_good b.lot.0) _ terms.0 in
    let steps = both (Book.steps_good b.w b.r) (Book.factor_good b.w b.r) lot.1 in
    let step = both (between 1 1_000_000 b.w) (between 1 1_000_000 b.r) steps.0 in
    let section_places_lem = both (eqb (length b.sections) 128) _ places.0 in
    let notice_places_lem = both (eqb (length b.notices) 256) _ section_places_lem.1 in
    let counts = both (leb b.held 128) (leb b.filed 256) notice_places_lem.1 in
    let within_limits = both (every (Book.section_good b.trades) (Book.held_sections b)) _ sections.0 in
    let codes_apart = both (apart Book.section_codes_alike (Book.held_sections b)) _ within_limits.1 in
    let sums = both (Book.sums_to_zero (map Book.position_of (Book.held_sections b))) (Book.sums_to_zero (map Book.basis_of (Book.held_sections b))) codes_apart.1 in
    let filed = both (every (Book.notice_good b.held) (Book.filed_notices b)) _ notices.0 in
    record {
      lot = between_facts 1 1_000 _ lot.0;
      w = between_facts 1 1_000_000 _ step.0;
      r = between_facts 1 1_000_000 _ step.1;
      k = between_facts 1 10_000_000 _ steps.1;
      section_places_lem = eqb-true _ _ section_places_lem.0;
      notice_places_lem = eqb-true _ _ notice_places_lem.0;
      held = leb-true _ _ counts.0;
      filed = leb-true _ _ counts.1;
      last = last.0;
      trades = leb-true _ _ trades.0;
      sections = within_limits.0;
      codes_apart = codes_apart.0;
      positions = within_zero _ sums.0;
      bases = within_zero _ sums.1;
      notices = filed.0;
      notices_apart = filed.1;
      sections_blank = blank.0;
      notices_blank = blank.1;
    }

pub test : (b : Book) → Good b → Book.good b ≡ true
unfolding Book.good Book.terms_good Book.places_good Book.sections_good Book.notices_good Book.tails_blank
test b h =
    together (together (between_test h.lot) (together (together (between_test h.w) (between_test h.r)) (between_test h.k)))
    (together
    (together (eq-eqb _ _ h.section_places_lem)
    (together (eq-eqb _ _ h.notice_places_lem) (together (le-leb _ _ h.held) (le-leb _ _ h.filed))))
    (together h.last
    (together (le-leb _ _ h.trades)
    (together (together h.sections (together h.codes_apart (together (zero_within h.positions) (zero_within h.bases))))
    (together (together h.notices h.notices_apart) (together h.sections_blank h.notices_blank))))))

-- the counts, as the judging of the later parts needs them
pub counts : (b : Book) → Book.places_good b ≡ true → (b.held ≤ 128) × (b.filed ≤ 256)
unfolding Book.places_good
counts b e =
    let section_places_lem = both (eqb (length b.sections) 128) _ e in
    let notice_places_lem = both (eqb (length b.notices) 256) _ section_places_lem.1 in
    let parts = both (leb b.held 128) (leb b.filed 256) notice_places_lem.1 in
    (leb-true _ _ parts.0, leb-true _ _ parts.1)
