-- Step 6 pass by pass: the passes of a book's expiry, the lists that they read, and what each comes to.
use Rattle.std.specs.Prelude.{ℕ, ◌≡◌, ◌≤◌, true, List, take, ℤ}
use Rattle.rules.specs.Words.{less}
use Rattle.rules.specs.declared.book.{Book.Book}
use Rattle.rules.specs.Book.{good, held_sections, filed_notices}
use Rattle.rules.specs.Expiry.{Outside.outside, Outside.inside, Drawing.drawn}
use Rattle.rules.specs.Expiry.Passes
use Rattle.method_laws.specs.Columns.{settlements_of, notice_lots_in}
use Rattle.method_passes.specs.Formed.{pairs_in, lines_in}
use Rattle.method_delivery.specs.Lent.{ColumnsOf, remaining_of}
use Rattle.method_account.specs.declared.passes.{Pass.Pass}

-- what stays inside of a book's lots, what goes outside, and what is drawn of its notices for either (01, Expiry, 4.1; 01, Expiry, 4.2; 01, Expiry, 5.1)
abbrev pub near_of : Book → List ℕ
near_of b = inside (held_sections b) (remaining_of b)

abbrev pub far_of : Book → List ℕ
far_of b = outside (held_sections b) (remaining_of b)

abbrev pub drawn_near : Book → List ℕ
drawn_near b = drawn (held_sections b) (filed_notices b) (near_of b)

abbrev pub drawn_far : Book → List ℕ
drawn_far b = less (drawn (held_sections b) (filed_notices b) (remaining_of b)) (drawn_near b)

-- the inside pass of a settlement code, and the outside pass (01, Expiry, 6.1)
abbrev pub inside_of : Book → ℕ → Passes.Pass
inside_of b c = Passes.inside_pass (held_sections b) (filed_notices b) (near_of b) (drawn_near b) c

abbrev pub outside_of : Book → Passes.Pass
outside_of b = Passes.outside_pass (held_sections b) (far_of b) (drawn_far b)

-- the lists that the inside passes of a good book read
pub record Near (codes : List ℕ) (positions : List ℤ) (keys selling stands near drawn : List ℕ) (b : Book) : Type 0 where
  pub good_book : good b ≡ true
  pub columns : ColumnsOf b codes positions keys selling stands (notice_lots_in (filed_notices b))
  pub near_are : near ≡ near_of b
  pub drawn_are : drawn ≡ drawn_near b

-- and its outside pass
pub record Far (positions : List ℤ) (keys selling stands far drawn : List ℕ) (b : Book) : Type 0 where
  pub good_book : good b ≡ true
  pub columns : ColumnsOf b (settlements_of (held_sections b)) positions keys selling stands (notice_lots_in (filed_notices b))
  pub far_are : far ≡ far_of b
  pub drawn_are : drawn ≡ drawn_far b

-- there is a book that has these lists
pub record Behind (lists : Book → Type 0) : Type 0 where
  pub book : Book
  pub is : lists book

-- a pass, in the fronts of arrays: what it takes, the elevators' lots, its pairs and its lines (01, Expiry, 6.2; 01, Expiry, 6.3)
pub record PassOf (b : Book) (pass : Passes.Pass) (r : Pass) : Type 0 where
  pub buyers_are : take b.held r.buyers ≡ pass.buyers
  pub drawn_are : take b.filed r.drawn ≡ pass.drawn
  pub stocks_are : r.stages.stocks ≡ Passes.elevator_lots (Passes.elevators_in (filed_notices b)) pass.drawn
  pub pairs_are : pairs_in r.stages.pairs ≡ Passes.pairs_of (held_sections b) (filed_notices b) pass
  pub lines_are : lines_in r.stages.lines ≡ Passes.lines_of (held_sections b) (filed_notices b) pass
  pub few_pairs : r.stages.pairs.count ≤ 160
  pub few_lines : r.stages.lines.count ≤ 382
