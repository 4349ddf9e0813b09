-- Each column stands in the front of a local list.
use Rattle.numbers.proofs.Words.{ℕ, arith, ◌≡◌, refl, sym, true, List, take, length, replicate, length-take-le, ℤ, pos}
use Rattle.rules.specs.declared.book.{Book.Book}
use Rattle.rules.specs.Book.{good}
use Rattle.book_laws.proofs.Good.{facts}
use Rattle.method_columns.proofs.whole.columns_of.Goals as goal

-- the local lists at first
abbrev sections : List ℕ
sections = replicate 128 0

abbrev amounts : List ℤ
amounts = replicate 128 (pos 0)

abbrev notices : List ℕ
notices = replicate 256 0

module _ (b : Book) (h : good b ≡ true) where
  held_long : {A : Type 0} (places : List A) → length places ≡ 128 → b.held ≡ length (take b.held places)
  held_long places e = sym (length-take-le _ places (omega (arith, e, (facts b h).held)))

  filed_long : {A : Type 0} (places : List A) → length places ≡ 256 → b.filed ≡ length (take b.filed places)
  filed_long places e = sym (length-take-le _ places (omega (arith, e, (facts b h).filed)))

pub slice_bounds-persons-end : goal.slice_bounds-persons-end
slice_bounds-persons-end c = (facts _ c.requires).held

pub slice_bounds-fill-end : goal.slice_bounds-fill-end
slice_bounds-fill-end c = held_long _ c.requires sections refl

pub fill-requires : goal.fill-requires
fill-requires c = (c.requires, sym (held_long _ c.requires sections refl))

pub slice_bounds-codes-end : goal.slice_bounds-codes-end
slice_bounds-codes-end c = (facts _ c.requires).held

pub slice_bounds-fill-end-2 : goal.slice_bounds-fill-end-2
slice_bounds-fill-end-2 c = held_long _ c.requires sections refl

pub slice_bounds-positions-end : goal.slice_bounds-positions-end
slice_bounds-positions-end c = (facts _ c.requires).held

pub slice_bounds-fill-end-3 : goal.slice_bounds-fill-end-3
slice_bounds-fill-end-3 c = held_long _ c.requires amounts refl

pub slice_bounds-keys-end : goal.slice_bounds-keys-end
slice_bounds-keys-end c = (facts _ c.requires).held

pub slice_bounds-fill-end-4 : goal.slice_bounds-fill-end-4
slice_bounds-fill-end-4 c = held_long _ c.requires sections refl

pub fill-requires-2 : goal.fill-requires-2
fill-requires-2 c = (c.requires, sym (held_long _ c.requires sections refl), sym (held_long _ c.requires amounts refl), sym (held_long _ c.requires sections refl))

pub slice_bounds-selling-end : goal.slice_bounds-selling-end
slice_bounds-selling-end c = (facts _ c.requires).filed

pub slice_bounds-fill-end-5 : goal.slice_bounds-fill-end-5
slice_bounds-fill-end-5 c = filed_long _ c.requires notices refl

pub slice_bounds-stands-end : goal.slice_bounds-stands-end
slice_bounds-stands-end c = (facts _ c.requires).filed

pub slice_bounds-fill-end-6 : goal.slice_bounds-fill-end-6
slice_bounds-fill-end-6 c = filed_long _ c.requires notices refl

pub slice_bounds-stock-end : goal.slice_bounds-stock-end
slice_bounds-stock-end c = (facts _ c.requires).filed

pub slice_bounds-fill-end-7 : goal.slice_bounds-fill-end-7
slice_bounds-fill-end-7 c = filed_long _ c.requires notices refl

pub fill-requires-3 : goal.fill-requires-3
fill-requires-3 c = (c.requires, sym (filed_long _ c.requires notices refl), sym (filed_long _ c.requires notices refl), sym (filed_long _ c.requires notices refl))
