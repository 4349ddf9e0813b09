-- An accepted opening makes a good book.
use Rattle.numbers.proofs.Words.{ℕ, arith, ◌≡◌, refl, true, length-replicate, between, every, apart, gathered}
use Rattle.numbers.proofs.Tests.{both}
use Rattle.numbers.proofs.Changed.{every-replicate}
use Rattle.rules.specs.Book.{opened, good, blank_section, blank_notice, section_blank, notice_blank}
use Rattle.rules.specs.Calls.{opening_number}
use Rattle.book_laws.proofs.Accepted.{opening}
use Rattle.book_laws.proofs.Good.{Good, between_facts, test}

section_blank_lem : section_blank blank_section ≡ true
unfolding section_blank Rattle.numbers.specs.Bytes.same
section_blank_lem = refl

notice_blank_lem : notice_blank blank_notice ≡ true
unfolding notice_blank
notice_blank_lem = refl

opened_good : (lot w r : ℕ) → opening_number lot w r ≡ 0 → Good (opened lot w r)
unfolding every apart gathered
opened_good lot w r e =
    let call = opening lot w r e in
    let steps = both (between 1 1_000_000 w) (between 1 1_000_000 r) call.1 in
    record {
      lot = between_facts 1 1_000 lot call.0;
      w = between_facts 1 1_000_000 w steps.0;
      r = between_facts 1 1_000_000 r steps.1;
      k = between_facts 1 10_000_000 _ call.2;
      section_places_lem = length-replicate 128 blank_section;
      notice_places_lem = length-replicate 256 blank_notice;
      held = omega arith;
      filed = omega arith;
      last = refl;
      trades = omega arith;
      sections = refl;
      codes_apart = refl;
      positions = refl;
      bases = refl;
      notices = refl;
      notices_apart = refl;
      sections_blank = every-replicate section_blank 128 blank_section section_blank_lem;
      notices_blank = every-replicate notice_blank 256 blank_notice notice_blank_lem;
    }

pub opening_kept : (lot w r : ℕ) → opening_number lot w r ≡ 0 → good (opened lot w r) ≡ true
opening_kept lot w r e = test _ (opened_good lot w r e)
