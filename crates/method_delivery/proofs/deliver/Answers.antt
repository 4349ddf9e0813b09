-- The columns of the book stand in the fronts of seven arrays.
use Rattle.numbers.proofs.Words.{◌≡◌, true}
use Rattle.rules.specs.declared.book.{Book.Book}
use Rattle.rules.specs.Book.{good}
use Rattle.book_laws.proofs.Good.{facts}
use Rattle.method_columns.specs.Whole.{Whole}
use Rattle.method_columns.specs.declared.{whole.Columns.Columns}
use Rattle.method_columns.proofs.Fronts.{Lent, lent}
use Rattle.method_delivery.proofs.deliver.Goals as goal

fronts : {b : Book} {columns : Columns} → good b ≡ true → Whole b columns → Lent b columns
fronts {b} h whole = lent (facts b h) whole

pub slice_bounds-persons-end : goal.slice_bounds-persons-end
slice_bounds-persons-end c = (fronts c.requires.0 c.columns_of-whole.ensures).persons.fits

pub slice_bounds-run-end : goal.slice_bounds-run-end
slice_bounds-run-end c = (fronts c.requires.0 c.columns_of-whole.ensures).persons.long

pub slice_bounds-codes-end : goal.slice_bounds-codes-end
slice_bounds-codes-end c = (fronts c.requires.0 c.columns_of-whole.ensures).codes.fits

pub slice_bounds-columns-end : goal.slice_bounds-columns-end
slice_bounds-columns-end c = (fronts c.requires.0 c.columns_of-whole.ensures).codes.long

pub slice_bounds-positions-end : goal.slice_bounds-positions-end
slice_bounds-positions-end c = (fronts c.requires.0 c.columns_of-whole.ensures).positions.fits

pub slice_bounds-columns-end-2 : goal.slice_bounds-columns-end-2
slice_bounds-columns-end-2 c = (fronts c.requires.0 c.columns_of-whole.ensures).positions.long

pub slice_bounds-keys-end : goal.slice_bounds-keys-end
slice_bounds-keys-end c = (fronts c.requires.0 c.columns_of-whole.ensures).keys.fits

pub slice_bounds-columns-end-3 : goal.slice_bounds-columns-end-3
slice_bounds-columns-end-3 c = (fronts c.requires.0 c.columns_of-whole.ensures).keys.long

pub slice_bounds-selling-end : goal.slice_bounds-selling-end
slice_bounds-selling-end c = (fronts c.requires.0 c.columns_of-whole.ensures).selling.fits

pub slice_bounds-notices-end : goal.slice_bounds-notices-end
slice_bounds-notices-end c = (fronts c.requires.0 c.columns_of-whole.ensures).selling.long

pub slice_bounds-stands-end : goal.slice_bounds-stands-end
slice_bounds-stands-end c = (fronts c.requires.0 c.columns_of-whole.ensures).stands.fits

pub slice_bounds-notices-end-2 : goal.slice_bounds-notices-end-2
slice_bounds-notices-end-2 c = (fronts c.requires.0 c.columns_of-whole.ensures).stands.long

pub slice_bounds-stock-end : goal.slice_bounds-stock-end
slice_bounds-stock-end c = (fronts c.requires.0 c.columns_of-whole.ensures).stock.fits

pub slice_bounds-notices-end-3 : goal.slice_bounds-notices-end-3
slice_bounds-notices-end-3 c = (fronts c.requires.0 c.columns_of-whole.ensures).stock.long
