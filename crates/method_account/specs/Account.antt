-- Steps 1 to 5 of a book's expiry.
use Rattle.std.specs.Prelude.{◌≡◌, take}
use Rattle.rules.specs.declared.book.{Book.Book}
use Rattle.rules.specs.Book.{held_sections, filed_notices}
use Rattle.rules.specs.Expiry.Failing.{failing}
use Rattle.rules.specs.Expiry.Outside.{inside}
use Rattle.rules.specs.Expiry.Call.{remaining}
use Rattle.method_laws.specs.Columns.{Small}
use Rattle.method_account.specs.declared.account.{Account.Account}
use Rattle.method_account.specs.Steps.{FailedOf, InCodesOf, AcrossOf, OutsideOf, DrawnOf}

-- no list of lots has more than a position may have (01, Book, 4)
pub record Within (b : Book) (a : Account) : Type 0 where
  pub failed : Small (take b.held a.failing.failed)
  pub left : Small (take b.held a.in_codes.left)
  pub kept : Small (take b.held a.across.kept)
  pub near : Small (take b.held a.outside.near)
  pub far : Small (take b.held a.outside.giving.given)
  pub inside : Small (take b.filed a.drawn.inside)
  pub beyond : Small (take b.filed a.drawn.beyond)

-- the account of a good book
pub record AccountOf (b : Book) (a : Account) : Type 0 where
  pub failing_is : FailedOf b a.failing
  pub in_codes_is : InCodesOf b.held (held_sections b) (failing (held_sections b) (filed_notices b)) a.in_codes
  pub across_is : AcrossOf b.held (held_sections b) (failing (held_sections b) (filed_notices b)) a.across
  pub kept_are : take b.held a.across.kept ≡ remaining (held_sections b) (filed_notices b)
  pub outside_is : OutsideOf b.held (held_sections b) (remaining (held_sections b) (filed_notices b)) a.outside
  pub drawn_is : DrawnOf b.filed (held_sections b) (filed_notices b) (remaining (held_sections b) (filed_notices b)) (inside (held_sections b) (remaining (held_sections b) (filed_notices b))) a.drawn
  pub small : Within b a
