-- The buyers' lots are chosen by code, then by side; what is drawn is chosen by code; the stages run on both.
use Rattle.numbers.proofs.Words.{ℕ, ℤ, ◌≤◌, arith, ◌≡◌, refl, sym, ap, subst, ◌∙◌, List, ◌++◌, take, drop, length, length-take-le, replicate}
use Rattle.numbers.proofs.Front.{Front, front_of}
use Rattle.rules.specs.declared.book.{Book.Book}
use Rattle.book_laws.proofs.Good.{Good, facts}
use Rattle.method_laws.specs.Columns.{Small}
use Rattle.method_register.specs.Passes.{long_lots, lots_in_code, drawn_in_code}
use Rattle.method_steps.specs.Held.{Held}
use Rattle.method_steps.proofs.Laws.{noughts}
use Rattle.method_delivery.proofs.Book.{held_columns}
use Rattle.method_columns.proofs.Laws.{seller_within}
use Rattle.method_account.specs.Passes.{inside_of, Near}
use Rattle.method_account.proofs.Taking as taking
use Rattle.method_account.proofs.passes.inside_pass.Goals as goal
use Rattle.method_account.proofs.passes.inside_pass.Goals.{After-drawn_in_code, After-lots_in_code}

abbrev none : List ℕ
none = replicate 256 0

-- any book that has these lists
module _ {codes : List ℕ} {positions : List ℤ} {keys selling stands near inside : List ℕ} {b : Book} (is : Near codes positions keys selling stands near inside b) where
  good_book : Good b
  good_book = facts b is.good_book

  all_held : length near ≡ b.held
  all_held = ap length is.near_are ∙ taking.near_long good_book

  all_filed : length inside ≡ b.filed
  all_filed = ap length is.drawn_are ∙ taking.drawn_near_long good_book

  columns_held : Held codes positions keys (length near)
  columns_held = held_columns good_book is.columns _ all_held

  few_filed : length inside ≤ 256
  few_filed = omega (arith, all_filed, good_book.filed)

  long : length (take (length near) noughts) ≡ length near
  long = length-take-le _ noughts columns_held.few

  filed_long : length (take (length inside) none) ≡ length inside
  filed_long = length-take-le _ none few_filed

-- the lots of the code's sections
first_front : (c : After-lots_in_code) → Front (length (c.args.near.now)) noughts c.lots_in_code.new.out
first_front c = front_of _ _ _ (columns_held c.requires.0.is).few c.lots_in_code.auto.out

-- and of the long ones among them; what is drawn
module _ (c : After-drawn_in_code) where
  abbrev many : ℕ
  many = length (c.args.near.now)

  abbrev filed : ℕ
  filed = length (c.args.inside.now)

  bought : Front many noughts c.lots_in_code.new.out
  bought = front_of _ _ _ (columns_held c.requires.0.is).few c.lots_in_code.auto.out

  buyers_front : Front many (c.lots_in_code.new.out ++ drop many noughts) c.keep_long.new.lots
  buyers_front = front_of _ _ _ bought.fits c.keep_long.auto.lots

  abbrev buyers : List ℕ
  buyers = c.keep_long.new.lots ++ drop many (c.lots_in_code.new.out ++ drop many noughts)

  drawn_front : Front filed none c.drawn_in_code.new.out
  drawn_front = front_of _ _ _ (few_filed c.requires.0.is) c.drawn_in_code.auto.out

  abbrev drawn : List ℕ
  drawn = c.drawn_in_code.new.out ++ drop filed none

  module _ (b : Book) (is : Near (c.args.codes.now) (c.args.positions.now) (c.args.keys.now) (c.args.selling.now) (c.args.stands.now) (c.args.near.now) (c.args.inside.now) b) where
    buys : take many buyers ≡ (inside_of b c.args.c).buyers
    buys =
        let a = c.args in
        buyers_front.is
        ∙ c.keep_long.ensures
        ∙ ap (long_lots (a.positions.now)) (bought.is ∙ c.lots_in_code.ensures ∙ ap (λ (xs : List ℕ). lots_in_code (a.codes.now) xs a.c) is.near_are)
        ∙ taking.bought_inside (good_book is) is.columns a.c

    draws : take filed drawn ≡ (inside_of b c.args.c).drawn
    draws =
        let a = c.args in
        drawn_front.is
        ∙ c.drawn_in_code.ensures
        ∙ ap (λ (xs : List ℕ). drawn_in_code (a.codes.now) (a.selling.now) xs a.c) is.drawn_are
        ∙ taking.drawn_inside_lem (good_book is) is.columns a.c

pub slice_bounds-buyers-end : goal.slice_bounds-buyers-end
slice_bounds-buyers-end c = (columns_held c.requires.0.is).few

pub slice_bounds-lots_in_code-end : goal.slice_bounds-lots_in_code-end
slice_bounds-lots_in_code-end c = sym (long c.requires.0.is)

pub lots_in_code-requires : goal.lots_in_code-requires
lots_in_code-requires c = ((columns_held c.requires.0.is).codes_long, long c.requires.0.is)

pub slice_bounds-buyers-end-2 : goal.slice_bounds-buyers-end-2
slice_bounds-buyers-end-2 c = (first_front (goal.at.slice_bounds-buyers-end-2 c).After-lots_in_code).fits

pub slice_bounds-keep_long-end : goal.slice_bounds-keep_long-end
slice_bounds-keep_long-end c = sym (first_front (goal.at.slice_bounds-keep_long-end c).After-lots_in_code).long

pub keep_long-requires : goal.keep_long-requires
keep_long-requires c = (columns_held c.requires.0.is).positions_long ∙ sym (first_front (goal.at.keep_long-requires c).After-lots_in_code).long

pub slice_bounds-drawn-end : goal.slice_bounds-drawn-end
slice_bounds-drawn-end c = few_filed c.requires.0.is

pub slice_bounds-drawn_in_code-end : goal.slice_bounds-drawn_in_code-end
slice_bounds-drawn_in_code-end c = sym (filed_long c.requires.0.is)

pub drawn_in_code-requires : goal.drawn_in_code-requires
drawn_in_code-requires c =
    let is = c.requires.0.is in
    let good = good_book is in record {
      sellers_len = (taking.selling_filed good is.columns ∙ sym (all_filed is), filed_long is);
      by_index = λ k h. omega (arith, (columns_held is).codes_long, all_held is, seller_within c.requires.0.book good is.columns.filed.sellers_are k h);
    }

pub slice_bounds-buyers-end-3 : goal.slice_bounds-buyers-end-3
slice_bounds-buyers-end-3 c = (buyers_front (goal.at.slice_bounds-buyers-end-3 c).After-drawn_in_code).fits

pub slice_bounds-stages-end : goal.slice_bounds-stages-end
slice_bounds-stages-end c = sym (buyers_front (goal.at.slice_bounds-stages-end c).After-drawn_in_code).long

pub slice_bounds-drawn-end-2 : goal.slice_bounds-drawn-end-2
slice_bounds-drawn-end-2 c = (drawn_front (goal.at.slice_bounds-drawn-end-2 c).After-drawn_in_code).fits

pub slice_bounds-stages-end-2 : goal.slice_bounds-stages-end-2
slice_bounds-stages-end-2 c = sym (drawn_front (goal.at.slice_bounds-stages-end-2 c).After-drawn_in_code).long

pub stages-stages-requires : goal.stages-stages-requires
stages-stages-requires c =
    let at = (goal.at.stages-stages-requires c).After-drawn_in_code in
    let b = c.requires.0.book in
    let is = c.requires.0.is in
    let good = good_book is in
    let lots = take (length (c.args.near.now)) (buyers at) in
    let drawn = take (length (c.args.inside.now)) (drawn at) in record {
      keys_len_bound = (omega (arith, (columns_held is).keys_long, (columns_held is).few), (buyers_front at).long ∙ sym (columns_held is).keys_long);
      sold = taking.sold_of good is.columns drawn ((drawn_front at).long ∙ all_filed is) (subst Small (sym (draws at b is)) (taking.inside_small good c.args.c));
      drawn_len_bound = taking.room good is.columns (inside_of b c.args.c) (taking.inside_long good c.args.c) (taking.inside_few good c.args.c c.requires.1) lots drawn (buys at b is) (draws at b is);
    }

pub returns : goal.returns
returns c = λ b is.
    let at = (goal.at.returns c).After-drawn_in_code in
    let good = good_book is in
    let many = length (c.args.near.now) in
    let filed = length (c.args.inside.now) in
    taking.passed good is.columns (inside_of b c.args.c) (taking.inside_long good c.args.c) (taking.inside_few good c.args.c c.requires.1) (take many (buyers at)) (take filed (drawn at))
    (buys at b is) (draws at b is) many filed (record { buyers = buyers at; drawn = drawn at; stages = c.stages-stages.result }) (all_held is) (all_filed is) refl refl
    c.stages-stages.ensures.stocks_value c.stages-stages.ensures.pairs_value c.stages-stages.ensures.lines_value
