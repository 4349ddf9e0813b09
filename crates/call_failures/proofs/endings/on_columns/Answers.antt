-- What fails as marks stand, what fails with a condition met, and what each section has stand in local lists, one after the other.
use Rattle.numbers.proofs.Words.{ℕ, ◌≤◌, arith, ◌≡◌, sym, ap, ◌∙◌, List, [], ◌++◌, map, map-map, take, drop, length, replicate, length-take-le, get_or-take, get_or-map, ℤ, true, nat_abs, listed, entry}
use Rattle.numbers.proofs.Front.{noughts_front, Front, front_of}
use Rattle.rules.specs.Book.{good, held_sections, filed_notices, section_at, section_of_noughts, position_of}
use Rattle.rules.specs.Expiry.{size}
use Rattle.rules.specs.Expiry.Failing.{noticed}
use Rattle.book_laws.proofs.Good.{facts}
use Rattle.rules.specs.declared.book.{Book.Book}
use Rattle.method_delivery.specs.Lent.{ColumnsOf}
use Rattle.method_laws.proofs.Columns.{codes_long}
use Rattle.method_columns.proofs.Laws.{marks_fail}
use Rattle.method_delivery.proofs.Book.{sections_held, noticed_columns}
use Rattle.method_patterns.specs.Patterns.{Stands, Marks}
use Rattle.method_patterns.proofs.Laws.Counting.{counted_own}
use Rattle.call_failures.proofs.endings.on_columns.Goals as goal
use Rattle.call_failures.proofs.endings.on_columns.Goals.{After-failing, After-failing-2, After-magnitudes, After-noticed}

abbrev noughts : List ℕ
noughts = replicate 128 0

-- as many columns as sections held
module _ {b : Book} {codes : List ℕ} {positions : List ℤ} {keys selling stands stock : List ℕ} (is : good b ≡ true) (columns : ColumnsOf b codes positions keys selling stands stock) where
  held : length codes ≡ b.held
  held = codes_long (held_sections b) columns.codes_are ∙ sections_held (facts _ is)

  few : length codes ≤ 128
  few = omega (arith, held, (facts _ is).held)

  long : length (take (length codes) noughts) ≡ length codes
  long = length-take-le _ noughts few

-- the lots of each section's notices
module _ (c : After-noticed) where
  noticed_front : Front (length (c.args.columns.codes.now)) noughts c.noticed.new.sums
  noticed_front = front_of _ _ _ (few c.requires.b_value.0 c.requires.b_value.2) c.noticed.auto.sums

  noticed_is : take (length (c.args.columns.codes.now)) (c.noticed.new.sums ++ drop (length (c.args.columns.codes.now)) noughts) ≡ listed c.args.b.held (noticed (filed_notices c.args.b))
  noticed_is =
      let ns = filed_notices c.args.b in
      let columns = c.requires.b_value.2 in
      noticed_front.is ∙ c.noticed.ensures ns columns.filed.sellers_are columns.filed.lots_are ∙ ap (λ (n : ℕ). listed n (noticed ns)) (long c.requires.b_value.0 columns ∙ held c.requires.b_value.0 columns)

-- what fails as marks stand, and with the condition met
fails_front : (c : After-failing) → Front (length (c.args.columns.codes.now)) noughts c.failing.new.lots
fails_front c = front_of _ _ _ (few c.requires.b_value.0 c.requires.b_value.2) c.failing.auto.lots

still_front : (c : After-failing-2) → Front (length (c.args.columns.codes.now)) noughts c.failing-2.new.lots
still_front c = front_of _ _ _ (few c.requires.b_value.0 c.requires.b_value.2) c.failing-2.auto.lots

-- what each section has; so the columns stand behind the book, with its marks
module _ (c : After-magnitudes) (failed : Front (length (c.args.columns.codes.now)) noughts c.failing.new.lots) (met : Front (length (c.args.columns.codes.now)) noughts c.failing-2.new.lots) where
  abbrev many : ℕ
  many = length (c.args.columns.codes.now)

  own_front : Front many noughts c.magnitudes.new.out
  own_front = front_of _ _ _ (few c.requires.b_value.0 c.requires.b_value.2) c.magnitudes.auto.out

  abbrev fails : List ℕ
  fails = take many (c.failing.new.lots ++ drop many noughts)

  abbrev still : List ℕ
  still = take many (c.failing-2.new.lots ++ drop many noughts)

  abbrev own : List ℕ
  own = take many (c.magnitudes.new.out ++ drop many noughts)

  own_is : own ≡ map size (held_sections c.args.b)
  own_is = own_front.is ∙ c.magnitudes.ensures ∙ ap (map nat_abs) c.requires.b_value.2.positions_are ∙ map-map nat_abs position_of (held_sections c.args.b)

  stands : Stands c.args.b (c.args.persons.now) (c.args.columns.codes.now) (c.args.columns.positions.now) (c.args.columns.keys.now) (c.args.notices.sellers.now) (c.args.notices.stands.now) (c.args.notices.lots.now) fails
  stands = record { good_book = c.requires.b_value.0; columns = c.requires.b_value.2; persons_are = c.requires.b_value.3; failed_are = failed.is ∙ c.failing.ensures ∙ marks_fail _ (facts _ c.requires.b_value.0) }

  marks : Marks c.args.b fails own still (c.args.named.now)
  marks =
      record {
        unexpired = c.requires.b_value.1;
        own_are = own_is;
        still_are = met.is ∙ c.failing-2.ensures;
        known = λ k h. omega (arith, c.requires.asked_lt_held.1 k h, held c.requires.b_value.0 c.requires.b_value.2, failed.long);
      }

  asked_has : entry own c.args.asked ≡ size (section_at c.args.b c.args.asked)
  asked_has =
      let b = c.args.b in
      let none = section_of_noughts [] in
      ap (λ (l : List ℕ). entry l c.args.asked) own_is
      ∙ get_or-map size (held_sections b) c.args.asked none
      ∙ ap size (get_or-take b.held b.sections c.args.asked none c.requires.asked_lt_held.0)

pub noticed-requires : goal.noticed-requires
noticed-requires c =
    let is = c.requires.b_value.0 in
    let lent = c.requires.b_value.2 in
    let columns = noticed_columns (facts _ is) lent _ (long is lent ∙ held is lent) in record {
      sellers_len_bound = (columns.few, columns.long, noughts_front _ 128 (few is lent) ∙ ap (λ (n : ℕ). replicate n 0) (sym (long is lent)));
      below = (columns.seller, columns.small);
    }

pub failing-requires : goal.failing-requires
failing-requires c =
    let is = c.requires.b_value.0 in
    let columns = c.requires.b_value.2 in
    (is, long is columns ∙ held is columns, noticed_is (goal.at.failing-requires c).After-noticed)

pub failing-requires-2 : goal.failing-requires-2
failing-requires-2 c =
    let is = c.requires.b_value.0 in
    let columns = c.requires.b_value.2 in
    (is, long is columns ∙ held is columns, noticed_is (goal.at.failing-requires-2 c).After-noticed)

pub count-requires : goal.count-requires
count-requires c =
    let at = (goal.at.count-requires c).After-magnitudes in
    let failed = fails_front (goal.at.count-requires c).After-failing in
    let met = still_front (goal.at.count-requires c).After-failing-2 in (
      record { book = _; is = stands at failed met; marks = marks at failed met },
      omega (arith, c.requires.asked_lt_held.0, held c.requires.b_value.0 c.requires.b_value.2, failed.long),
      c.requires.asked_lt_held.2,
    )

pub returns : goal.returns
returns c =
    let at = (goal.at.returns c).After-magnitudes in
    let failed = fails_front (goal.at.returns c).After-failing in
    let met = still_front (goal.at.returns c).After-failing-2 in
    counted_own (c.count.ensures _ (stands at failed met) (marks at failed met)) (asked_has at failed met)
