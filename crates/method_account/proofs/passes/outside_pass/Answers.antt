-- The buyers' lots are those of the long sections, and what is drawn outside is copied; the stages run on both.
use Rattle.numbers.proofs.Words.{ℕ, ℤ, ◌≤◌, arith, ◌≡◌, refl, sym, ap, subst, ◌∙◌, List, ◌++◌, take, drop, length, length-take-le, replicate}
use Rattle.numbers.proofs.Front.{Front, front_of}
use Rattle.rules.specs.declared.book.{Book.Book}
use Rattle.rules.specs.Book.{held_sections}
use Rattle.rules.specs.Expiry.Passes
use Rattle.book_laws.proofs.Good.{Good, facts}
use Rattle.method_laws.specs.Columns.{settlements_of, Small}
use Rattle.method_register.specs.Passes.{long_lots}
use Rattle.method_steps.specs.Held.{Held}
use Rattle.method_steps.proofs.Laws.{noughts}
use Rattle.method_delivery.proofs.Book.{held_columns}
use Rattle.method_account.specs.Passes.{outside_of, Far}
use Rattle.method_account.proofs.Taking as taking
use Rattle.method_account.proofs.passes.outside_pass.Goals as goal
use Rattle.method_account.proofs.passes.outside_pass.Goals.{After-copy_from_slice-2, After-copy_from_slice}

abbrev none : List ℕ
none = replicate 256 0

-- any book that has these lists
module _ {positions : List ℤ} {keys selling stands far beyond : List ℕ} {b : Book} (is : Far positions keys selling stands far beyond b) where
  good_book : Good b
  good_book = facts b is.good_book

  all_held : length far ≡ b.held
  all_held = ap length is.far_are ∙ taking.far_long good_book

  all_filed : length beyond ≡ b.filed
  all_filed = ap length is.drawn_are ∙ taking.drawn_far_long good_book

  columns_held : Held (settlements_of (held_sections b)) positions keys (length far)
  columns_held = held_columns good_book is.columns _ all_held

  few_filed : length beyond ≤ 256
  few_filed = omega (arith, all_filed, good_book.filed)

  long : length (take (length far) noughts) ≡ length far
  long = length-take-le _ noughts columns_held.few

  filed_long : length (take (length beyond) none) ≡ length beyond
  filed_long = length-take-le _ none few_filed

-- the lots that go outside
first_front : (c : After-copy_from_slice) → Front (length (c.args.far.now)) noughts c.copy_from_slice.new.self
first_front c = front_of _ _ _ (columns_held c.requires.is).few c.copy_from_slice.auto.self

-- and of the long ones among them; what is drawn
module _ (c : After-copy_from_slice-2) where
  abbrev many : ℕ
  many = length (c.args.far.now)

  abbrev filed : ℕ
  filed = length (c.args.beyond.now)

  bought : Front many noughts c.copy_from_slice.new.self
  bought = front_of _ _ _ (columns_held c.requires.is).few c.copy_from_slice.auto.self

  buyers_front : Front many (c.copy_from_slice.new.self ++ drop many noughts) c.keep_long.new.lots
  buyers_front = front_of _ _ _ bought.fits c.keep_long.auto.lots

  abbrev buyers : List ℕ
  buyers = c.keep_long.new.lots ++ drop many (c.copy_from_slice.new.self ++ drop many noughts)

  drawn_front : Front filed none c.copy_from_slice-2.new.self
  drawn_front = front_of _ _ _ (few_filed c.requires.is) c.copy_from_slice-2.auto.self

  abbrev drawn : List ℕ
  drawn = c.copy_from_slice-2.new.self ++ drop filed none

  module _ (b : Book) (is : Far (c.args.positions.now) (c.args.keys.now) (c.args.selling.now) (c.args.stands.now) (c.args.far.now) (c.args.beyond.now) b) where
    buys : take many buyers ≡ (outside_of b).buyers
    buys =
        buyers_front.is
        ∙ c.keep_long.ensures
        ∙ ap (long_lots (c.args.positions.now)) (bought.is ∙ c.copy_from_slice.ensures.after ∙ is.far_are)
        ∙ taking.bought_outside (good_book is) is.columns

    draws : take filed drawn ≡ (outside_of b).drawn
    unfolding Passes.outside_pass
    draws = drawn_front.is ∙ c.copy_from_slice-2.ensures.after ∙ is.drawn_are

pub slice_bounds-buyers-end : goal.slice_bounds-buyers-end
slice_bounds-buyers-end c = (columns_held c.requires.is).few

pub slice_bounds-copy_from_slice-end : goal.slice_bounds-copy_from_slice-end
slice_bounds-copy_from_slice-end c = sym (long c.requires.is)

pub copy_from_slice-requires : goal.copy_from_slice-requires
copy_from_slice-requires c = long c.requires.is

pub keep_long-requires : goal.keep_long-requires
keep_long-requires c = (columns_held c.requires.is).positions_long ∙ sym (first_front (goal.at.keep_long-requires c).After-copy_from_slice).long

pub slice_bounds-drawn-end : goal.slice_bounds-drawn-end
slice_bounds-drawn-end c = few_filed c.requires.is

pub slice_bounds-copy_from_slice-end-2 : goal.slice_bounds-copy_from_slice-end-2
slice_bounds-copy_from_slice-end-2 c = sym (filed_long c.requires.is)

pub copy_from_slice-requires-2 : goal.copy_from_slice-requires-2
copy_from_slice-requires-2 c = filed_long c.requires.is

pub stages-stages-requires : goal.stages-stages-requires
stages-stages-requires c =
    let at = (goal.at.stages-stages-requires c).After-copy_from_slice-2 in
    let b = c.requires.book in
    let is = c.requires.is in
    let good = good_book is in
    let lots = take (length (c.args.far.now)) (buyers at) in
    let drawn = take (length (c.args.beyond.now)) (drawn at) in record {
      keys_len_bound = (omega (arith, (columns_held is).keys_long, (columns_held is).few), (buyers_front at).long ∙ sym (columns_held is).keys_long);
      sold = taking.sold_of good is.columns drawn ((drawn_front at).long ∙ all_filed is) (subst Small (sym (draws at b is)) (taking.outside_small good));
      drawn_len_bound = taking.room good is.columns (outside_of b) (taking.outside_long good) (taking.outside_few good) lots drawn (buys at b is) (draws at b is);
    }

pub returns : goal.returns
returns c = λ b is.
    let at = (goal.at.returns c).After-copy_from_slice-2 in
    let good = good_book is in
    let many = length (c.args.far.now) in
    let filed = length (c.args.beyond.now) in
    taking.passed good is.columns (outside_of b) (taking.outside_long good) (taking.outside_few good) (take many (buyers at)) (take filed (drawn at))
    (buys at b is) (draws at b is) many filed (record { buyers = buyers at; drawn = drawn at; stages = c.stages-stages.result }) (all_held is) (all_filed is) refl refl
    c.stages-stages.ensures.stocks_value c.stages-stages.ensures.pairs_value c.stages-stages.ensures.lines_value
