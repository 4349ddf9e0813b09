-- The columns of a good book have what the method asks of them.
use Rattle.numbers.proofs.Words.{ℕ, ◌≤◌, arith, ◌≡◌, sym, ap, ap₂, ◌∙◌, List, map, map-map, length, length-map, ℤ, nat_abs, big_endian, less}
use Rattle.rules.specs.declared.book.{Book.Book, Section.Section}
use Rattle.rules.specs.Book.{held_sections, filed_notices, position_of}
use Rattle.rules.specs.Expiry.Call.{terminated}
use Rattle.book_laws.proofs.Good.{Good}
use Rattle.book_laws.proofs.Held.{held_length, filed_length, held_codes, held_told, filed_good}
use Rattle.method_laws.specs.Columns.{Columns, Small}
use Rattle.method_laws.proofs.Columns.{codes_long, positions_long, sellers_long, lots_long}
use Rattle.method_laws.proofs.Delivery
use Rattle.method_columns.proofs.Laws.{book_columns, code_within, position_within, seller_within, stand_within, lots_within}
use Rattle.method_steps.specs.Held.{Held}
use Rattle.method_register.specs.Passes.{Noticed, Expiring}
use Rattle.method_delivery.specs.Lent.{lines_for, remaining_of, ColumnsOf}

module _ {b : Book} (book : Good b) where
  pub sections_held : length (held_sections b) ≡ b.held
  sections_held = held_length b book.section_places_lem book.held

  pub notices_filed : length (filed_notices b) ≡ b.filed
  notices_filed = filed_length b book.notice_places_lem book.filed

  -- the register has a place for each line (01, Expiry call, 1)
  pub few_lines : length (lines_for b) ≤ 382
  few_lines =
      Delivery.lines_most (held_sections b) (filed_notices b) (held_codes b book) (held_told b book) book.positions
      (λ k h. omega (arith, sections_held, (filed_good b book k h).section))
      (λ k h. omega (arith, (filed_good b book k h).elevator))
      (omega (arith, sections_held, book.held))
      (omega (arith, notices_filed, book.filed))

  module _ {codes : List ℕ} {positions : List ℤ} {keys sellers stands lots : List ℕ} (e : ColumnsOf b codes positions keys sellers stands lots) where
    pub columns : Columns (held_sections b) codes positions keys
    columns = book_columns b book e.codes_are e.positions_are e.keys_are

    pub held_columns : (n : ℕ) → n ≡ b.held → Held codes positions keys n
    held_columns n is =
        record {
          few = omega (arith, is, book.held);
          codes_long = omega (arith, is, sections_held, codes_long (held_sections b) e.codes_are);
          positions_long = omega (arith, is, sections_held, positions_long (held_sections b) e.positions_are);
          keys_long = omega (arith, is, sections_held, ap length e.keys_are ∙ length-map (held_sections b) (λ (s : Section). big_endian s.code));
          code = code_within b book e.codes_are;
          position = position_within b book e.positions_are;
        }

    pub noticed_columns : (n : ℕ) → n ≡ b.held → Noticed sellers lots n
    noticed_columns n is =
        record {
          few = omega (arith, notices_filed, book.filed, sellers_long (filed_notices b) e.filed.sellers_are);
          long = lots_long (filed_notices b) e.filed.lots_are ∙ sym (sellers_long (filed_notices b) e.filed.sellers_are);
          seller = λ k h. omega (arith, is, seller_within b book e.filed.sellers_are k h);
          small = lots_within b book e.filed.lots_are;
        }

    -- the method runs on them (01, Expiry, 6.1)
    pub expiring : {kept : List ℕ} → length kept ≡ b.held → kept ≡ remaining_of b → Small kept → Expiring codes positions keys sellers stands lots kept
    expiring {kept} long is small =
        record {
          held = held_columns (length kept) long;
          noticed = noticed_columns (length kept) long;
          standing = stand_within b book e.filed.stands_are;
          small = small;
          ss = held_sections b;
          ns = filed_notices b;
          delivers = record { columns = columns; filed = e.filed; kept_is = is };
          few = few_lines;
        }

    -- the rest of each position is terminated (01, Expiry, 1.2)
    pub terminated_is : {kept : List ℕ} → kept ≡ remaining_of b → less (map nat_abs positions) kept ≡ terminated (held_sections b) (remaining_of b)
    unfolding terminated
    terminated_is is = ap₂ less (ap (map nat_abs) e.positions_are ∙ map-map nat_abs position_of (held_sections b)) is
