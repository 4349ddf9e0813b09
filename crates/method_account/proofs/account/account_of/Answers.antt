-- The five steps, one after the other, each on what the one before left.
use Rattle.numbers.proofs.Words.{rules, true, ℤ, ℕ, arith, ◌≡◌, sym, ap, subst, subst₂, ◌∙◌, List, take, length, length-take-le}
use Rattle.rules.specs.declared.book.{Book.Book, Section.Section, Notice.Notice}
use Rattle.rules.specs.Book.{good, held_sections, filed_notices}
use Rattle.rules.specs.Expiry.Failing
use Rattle.rules.specs.Expiry.Outside
use Rattle.rules.specs.Expiry.Call.{remaining}
use Rattle.book_laws.proofs.Good.{facts}
use Rattle.method_laws.specs.Columns.{Columns, Small}
use Rattle.method_laws.proofs.Columns.{codes_long, sellers_long}
use Rattle.method_delivery.specs.Lent.{ColumnsOf}
use Rattle.method_steps.specs.Held.{Held}
use Rattle.method_delivery.proofs.Book as lent
use Rattle.method_account.specs.Steps.{InCodesOf, Closed, AcrossOf, OutsideOf, DrawnOf}
use Rattle.method_account.proofs.account.account_of.Goals as goal
use Rattle.method_account.proofs.account.account_of.Goals.{After-draw-fifth}

-- the sections held, and the notices filed
module _ {b : Book} {codes : List ℕ} {positions : List ℤ} {keys selling stands stock : List ℕ} (good_book : good b ≡ true) (is : ColumnsOf b codes positions keys selling stands stock) where
  all_held : length codes ≡ b.held
  all_held = codes_long (held_sections b) is.codes_are ∙ lent.sections_held (facts _ good_book)

  all_filed : length selling ≡ b.filed
  all_filed = sellers_long (filed_notices b) is.filed.sellers_are ∙ lent.notices_filed (facts _ good_book)

  columns_held : (n : ℕ) → n ≡ b.held → Held codes positions keys n
  columns_held n e = lent.held_columns (facts _ good_book) is n e

  positions_held : length positions ≡ b.held
  positions_held = (columns_held _ all_held).positions_long ∙ all_held

-- the front of an array has an entry for each section held
front_long : (b : Book) (list : List ℕ) → good b ≡ true → length list ≡ 128 → length (take b.held list) ≡ b.held
front_long b list good_book places = length-take-le _ list (omega (arith, places, (facts _ good_book).held))

-- all five steps
module _ (c : After-draw-fifth) where
  abbrev ss : List Section
  ss = held_sections c.args.b

  abbrev ns : List Notice
  ns = filed_notices c.args.b

  abbrev held : ℕ
  held = c.args.b.held

  many : length (c.args.codes.now) ≡ held
  many = all_held c.requires.0 c.requires.1

  columns : Columns ss (c.args.codes.now) (c.args.positions.now) (c.args.keys.now)
  columns = lent.columns (facts _ c.requires.0) c.requires.1

  failed_places : length c.who_fails-first.result.failed ≡ 128
  failed_places = search rules

  failed_long : length (take held c.who_fails-first.result.failed) ≡ held
  failed_long = front_long c.args.b c.who_fails-first.result.failed c.requires.0 failed_places

  in_codes_is : InCodesOf held ss (Failing.failing ss ns) c.close_codes-second.result
  in_codes_is = subst₂ (λ (n : ℕ) (xs : List ℕ). InCodesOf n ss xs c.close_codes-second.result) failed_long c.who_fails-first.ensures.0.failed_are (c.close_codes-second.ensures.in_codes_of ss columns)

  closed : Closed held c.close_codes-second.result
  closed = subst (λ (n : ℕ). Closed n c.close_codes-second.result) failed_long c.close_codes-second.ensures.closed

  across_is : AcrossOf held ss (Failing.failing ss ns) c.close_across-third.result
  across_is =
      subst (λ (n : ℕ). AcrossOf n ss (Failing.failing ss ns) c.close_across-third.result) many
      (c.close_across-third.ensures.across_of ss (Failing.failing ss ns) columns (subst (λ (n : ℕ). InCodesOf n ss (Failing.failing ss ns) c.close_codes-second.result) (sym many) in_codes_is))

  abbrev kept : List ℕ
  kept = c.close_across-third.result.kept

  kept_are : take held kept ≡ remaining ss ns
  unfolding remaining
  kept_are = across_is.kept_are

  outside_is : OutsideOf held ss (remaining ss ns) c.part-fourth.result
  outside_is = subst₂ (λ (n : ℕ) (xs : List ℕ). OutsideOf n ss xs c.part-fourth.result) many (ap (λ (n : ℕ). take n kept) many ∙ kept_are) (c.part-fourth.ensures.outside_of ss columns)

  drawn_is : DrawnOf c.args.b.filed ss ns (remaining ss ns) (Outside.inside ss (remaining ss ns)) c.draw-fifth.result
  drawn_is =
      let lists = c.requires.1 in
      subst₂ (λ (xs ys : List ℕ). DrawnOf c.args.b.filed ss ns xs ys c.draw-fifth.result) kept_are outside_is.near_are
      (subst (λ (n : ℕ). DrawnOf n ss ns (take held kept) (take held c.part-fourth.result.near) c.draw-fifth.result) (all_filed c.requires.0 lists)
      (c.draw-fifth.ensures.drawn_of ss ns (record { positions_are = lists.positions_are; sellers_are = lists.filed.sellers_are; lots_are = lists.filed.lots_are })))

  -- fronts that are small have an entry for each section held, and for each notice filed
  with_held : (xs : List ℕ) → Small (take (length (c.args.codes.now)) xs) → Small (take held xs)
  with_held xs = subst (λ (n : ℕ). Small (take n xs)) many

  with_filed : (xs : List ℕ) → Small (take (length (c.args.selling.now)) xs) → Small (take c.args.b.filed xs)
  with_filed xs = subst (λ (n : ℕ). Small (take n xs)) (all_filed c.requires.0 c.requires.1)

pub slice_bounds-failed-end : goal.slice_bounds-failed-end
slice_bounds-failed-end c =
    let places : length c.who_fails-first.result.failed ≡ 128 = search rules in
    omega (arith, places, (facts _ c.requires.0).held)

pub slice_bounds-close_codes-end : goal.slice_bounds-close_codes-end
slice_bounds-close_codes-end c =
    let places : length c.who_fails-first.result.failed ≡ 128 = search rules in
    sym (front_long c.args.b c.who_fails-first.result.failed c.requires.0 places)

pub close_codes-second-requires : goal.close_codes-second-requires
close_codes-second-requires c =
    let places : length c.who_fails-first.result.failed ≡ 128 = search rules in
    (columns_held c.requires.0 c.requires.1 _ (front_long c.args.b c.who_fails-first.result.failed c.requires.0 places), c.who_fails-first.ensures.1)

pub close_across-third-requires : goal.close_across-third-requires
close_across-third-requires c =
    let places : length c.who_fails-first.result.failed ≡ 128 = search rules in
    let many = all_held c.requires.0 c.requires.1 in (
      columns_held c.requires.0 c.requires.1 _ many,
      subst (λ (n : ℕ). Closed n c.close_codes-second.result) (front_long c.args.b c.who_fails-first.result.failed c.requires.0 places ∙ sym many) c.close_codes-second.ensures.closed,
    )

pub part-fourth-requires : goal.part-fourth-requires
part-fourth-requires c = (columns_held c.requires.0 c.requires.1 _ (all_held c.requires.0 c.requires.1), c.close_across-third.ensures.small)

pub slice_bounds-kept-end : goal.slice_bounds-kept-end
slice_bounds-kept-end c =
    let places : length c.close_across-third.result.kept ≡ 128 = search rules in
    omega (arith, places, (facts _ c.requires.0).held)

pub slice_bounds-draw-end : goal.slice_bounds-draw-end
slice_bounds-draw-end c =
    let places : length c.close_across-third.result.kept ≡ 128 = search rules in
    sym (front_long c.args.b c.close_across-third.result.kept c.requires.0 places)

pub slice_bounds-near-end : goal.slice_bounds-near-end
slice_bounds-near-end c =
    let places : length c.part-fourth.result.near ≡ 128 = search rules in
    omega (arith, places, (facts _ c.requires.0).held)

pub slice_bounds-draw-end-2 : goal.slice_bounds-draw-end-2
slice_bounds-draw-end-2 c =
    let places : length c.part-fourth.result.near ≡ 128 = search rules in
    sym (front_long c.args.b c.part-fourth.result.near c.requires.0 places)

pub draw-fifth-requires : goal.draw-fifth-requires
draw-fifth-requires c =
    let long = positions_held c.requires.0 c.requires.1 in
    let kept : length c.close_across-third.result.kept ≡ 128 = search rules in
    let near : length c.part-fourth.result.near ≡ 128 = search rules in (
      omega (arith, long, (facts _ c.requires.0).held),
      front_long c.args.b c.close_across-third.result.kept c.requires.0 kept ∙ sym long,
      front_long c.args.b c.part-fourth.result.near c.requires.0 near ∙ sym long,
      lent.noticed_columns (facts _ c.requires.0) c.requires.1 _ long,
    )

pub returns : goal.returns
returns c =
    let at = (goal.at.returns c).After-draw-fifth in
    record {
      failing_is = c.who_fails-first.ensures.0;
      in_codes_is = in_codes_is at;
      across_is = across_is at;
      kept_are = kept_are at;
      outside_is = outside_is at;
      drawn_is = drawn_is at;
      small =
          record {
            failed = c.who_fails-first.ensures.1;
            left = (closed at).left_small;
            kept = with_held at c.close_across-third.result.kept c.close_across-third.ensures.small;
            near = with_held at c.part-fourth.result.near c.part-fourth.ensures.small.0;
            far = with_held at c.part-fourth.result.giving.given c.part-fourth.ensures.small.1;
            inside = with_filed at c.draw-fifth.result.inside c.draw-fifth.ensures.small.0;
            beyond = with_filed at c.draw-fifth.result.beyond c.draw-fifth.ensures.small.1;
          };
    }
