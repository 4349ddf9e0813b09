-- An accepted notice call leaves a good book.
use Rattle.numbers.proofs.Words.{ℕ, ◌<◌, arith, ◌≡◌, refl, ap, ap₂, ◌∙◌, true, ◌&&◌, [], ◌∷◌, ◌++◌, length, drop, length-set, pos, lt-ltb, le-leb, every, apart}
use Rattle.rules.specs.declared.book.{Book.Book, Notice.Notice}
use Rattle.numbers.proofs.Tests.{together, eqb_sym}
use Rattle.numbers.proofs.Changed.{every_append, every_drop, apart_more, take_more, drop_more}
use Rattle.rules.specs.Book.{good, notice_good, notice_blank, notices_alike, filed_notices}
use Rattle.rules.specs.Calls.{notice_number, after_notice}
use Rattle.book_laws.proofs.Accepted.{NewNotice, notice}
use Rattle.book_laws.proofs.Good.{Good, test}

abbrev filed : ℕ → ℕ → ℕ → Notice
filed i elevator lots = record { section = i; elevator = elevator; lots = record { 0 = pos lots } }

alike_sym : (m n : Notice) → notices_alike m n ≡ notices_alike n m
alike_sym m n = ap₂ ◌&&◌ (eqb_sym m.section n.section) (eqb_sym m.elevator n.elevator)

module _ (b : Book) (i elevator lots : ℕ) (call : NewNotice b i elevator lots) where
  place : b.filed < length b.notices
  place = omega (arith, call.room, call.book.notice_places_lem)

  sound : notice_good b.held (filed i elevator lots) ≡ true
  unfolding notice_good
  sound =
      together (lt-ltb i b.held call.known) (together (le-leb elevator 31 call.elevator_range) (together (le-leb 1 lots call.lots_range.least) (le-leb lots 1_000_000 call.lots_range.most)))

  pub more_filed : filed_notices (after_notice b i elevator lots) ≡ filed_notices b ++ (filed i elevator lots ∷ [])
  unfolding after_notice
  more_filed = take_more b.notices b.filed (filed i elevator lots) place

  after_good : Good (after_notice b i elevator lots)
  unfolding after_notice every
  after_good =
      let book = call.book in
      let n = filed i elevator lots in
      record {
        lot = book.lot;
        w = book.w;
        r = book.r;
        k = book.k;
        section_places_lem = book.section_places_lem;
        notice_places_lem = length-set b.notices b.filed n ∙ book.notice_places_lem;
        held = book.held;
        filed = omega (arith, call.room);
        last = book.last;
        trades = book.trades;
        sections = book.sections;
        codes_apart = book.codes_apart;
        positions = book.positions;
        bases = book.bases;
        notices = ap (every (notice_good b.held)) more_filed ∙ every_append (notice_good b.held) (filed_notices b) (n ∷ []) book.notices (together sound refl);
        notices_apart = ap (apart notices_alike) more_filed ∙ apart_more notices_alike alike_sym n (filed_notices b) book.notices_apart call.fresh;
        sections_blank = book.sections_blank;
        notices_blank = ap (every notice_blank) (drop_more b.notices b.filed n place) ∙ every_drop notice_blank 1 (drop b.filed b.notices) book.notices_blank;
      }

pub notice_kept : (b : Book) (i elevator lots : ℕ) → notice_number b i elevator lots ≡ 0 → good (after_notice b i elevator lots) ≡ true
notice_kept b i elevator lots e = test _ (after_good b i elevator lots (notice b i elevator lots e))
