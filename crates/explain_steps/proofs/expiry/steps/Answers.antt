-- The columns of the book stand in the fronts of their arrays.
use Rattle.numbers.proofs.Words.{◌≡◌, true}
use Rattle.rules.specs.declared.book.{Book.Book}
use Rattle.rules.specs.Book.{good}
use Rattle.book_laws.proofs.Good.{facts}
use Rattle.method_columns.specs.Whole.{Whole}
use Rattle.method_columns.specs.declared.{whole.Columns.Columns}
use Rattle.method_columns.proofs.Fronts.{Lent, lent}
use Rattle.explain_steps.proofs.expiry.steps.Goals as goal

fronts : {b : Book} {columns : Columns} → good b ≡ true → Whole b columns → Lent b columns
fronts {b} h whole = lent (facts b h) whole

pub slice_bounds-codes-end : goal.slice_bounds-codes-end
slice_bounds-codes-end g c = (fronts c.requires c.columns_of-whole.ensures).codes.fits

pub slice_bounds-sections-end : goal.slice_bounds-sections-end
slice_bounds-sections-end g c = (fronts c.requires c.columns_of-whole.ensures).codes.long

pub slice_bounds-positions-end : goal.slice_bounds-positions-end
slice_bounds-positions-end g c = (fronts c.requires c.columns_of-whole.ensures).positions.fits

pub slice_bounds-sections-end-2 : goal.slice_bounds-sections-end-2
slice_bounds-sections-end-2 g c = (fronts c.requires c.columns_of-whole.ensures).positions.long

pub slice_bounds-keys-end : goal.slice_bounds-keys-end
slice_bounds-keys-end g c = (fronts c.requires c.columns_of-whole.ensures).keys.fits

pub slice_bounds-sections-end-3 : goal.slice_bounds-sections-end-3
slice_bounds-sections-end-3 g c = (fronts c.requires c.columns_of-whole.ensures).keys.long

pub slice_bounds-selling-end : goal.slice_bounds-selling-end
slice_bounds-selling-end g c = (fronts c.requires c.columns_of-whole.ensures).selling.fits

pub slice_bounds-notices-end : goal.slice_bounds-notices-end
slice_bounds-notices-end g c = (fronts c.requires c.columns_of-whole.ensures).selling.long

pub slice_bounds-stands-end : goal.slice_bounds-stands-end
slice_bounds-stands-end g c = (fronts c.requires c.columns_of-whole.ensures).stands.fits

pub slice_bounds-notices-end-2 : goal.slice_bounds-notices-end-2
slice_bounds-notices-end-2 g c = (fronts c.requires c.columns_of-whole.ensures).stands.long

pub slice_bounds-stock-end : goal.slice_bounds-stock-end
slice_bounds-stock-end g c = (fronts c.requires c.columns_of-whole.ensures).stock.fits

pub slice_bounds-notices-end-3 : goal.slice_bounds-notices-end-3
slice_bounds-notices-end-3 g c = (fronts c.requires c.columns_of-whole.ensures).stock.long
