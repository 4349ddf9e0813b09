-- Each step's numbers, by the definitions; lists stand in the fronts of arrays.
use Rattle.std.specs.Prelude.{ℕ, ◌≡◌, true, false, List, map, take, length, ℤ}
use Rattle.rules.specs.Words.{listed, less}
use Rattle.rules.specs.declared.book.{Book.Book, Section.Section, Notice.Notice}
use Rattle.rules.specs.Book.{settlement_codes, held_sections, filed_notices}
use Rattle.rules.specs.Expiry.{size, net_of_code}
use Rattle.rules.specs.Expiry.Failing.{noticed, failing}
use Rattle.rules.specs.Expiry.Codes.{d_of_codes, given_in_codes}
use Rattle.rules.specs.Expiry.Across.{d_overall, given_across}
use Rattle.rules.specs.Expiry.Outside.{outside, inside}
use Rattle.rules.specs.Expiry.Drawing.{drawn}
use Rattle.method_laws.specs.Columns.{NetsSmall, Small}
use Rattle.method_account.specs.declared.{failing.Failed.Failed, in_codes.InCodes.InCodes, across.Across.Across, outside.Outside.Outside, drawing.Drawn.Drawn}
use Rattle.method_account.specs.Gives.{may_give, may_give_across, Gives}

-- given what fails: the sound lots, what each section gives in its settlement code, and what is left then (01, Expiry, 2.2)
abbrev pub sound_of : List Section → List ℕ → List ℕ
sound_of ss failed = less (map size ss) failed

abbrev pub given_of : List Section → List ℕ → List ℕ
given_of ss failed = given_in_codes ss (d_of_codes ss failed) (sound_of ss failed)

abbrev pub left_of : List Section → List ℕ → List ℕ
left_of ss failed = less (sound_of ss failed) (given_of ss failed)

-- D, what each section gives towards it, and what is kept (01, Expiry, 3.1; 01, Expiry, 3.3)
abbrev pub d_of : List Section → List ℕ → ℤ
d_of ss failed = d_overall ss (d_of_codes ss failed) (given_of ss failed)

abbrev pub across_of : List Section → List ℕ → List ℕ
across_of ss failed = given_across ss (d_of ss failed) (left_of ss failed)

abbrev pub kept_of : List Section → List ℕ → List ℕ
kept_of ss failed = less (left_of ss failed) (across_of ss failed)

-- the nets of lots, by settlement code (01, Expiry, 2.1)
abbrev pub nets_of : List Section → List ℕ → List ℤ
nets_of ss lots = listed settlement_codes (net_of_code ss lots)

-- step 1 (01, Expiry, 1.1; 01, Expiry, 1.2)
pub record FailedOf (b : Book) (r : Failed) : Type 0 where
  pub noticed_are : take b.held r.noticed ≡ listed b.held (noticed (filed_notices b))
  pub failed_are : take b.held r.failed ≡ failing (held_sections b) (filed_notices b)

-- step 2 (01, Expiry, 2.1; 01, Expiry, 2.2)
pub record InCodesOf (held : ℕ) (ss : List Section) (failed : List ℕ) (r : InCodes) : Type 0 where
  pub gaps_are : r.gaps ≡ d_of_codes ss failed
  pub gives : Gives held false ss (may_give false ss (d_of_codes ss failed) (sound_of ss failed)) (given_of ss failed) r.giving
  pub left_are : take held r.left ≡ left_of ss failed

-- what step 3 asks of it
pub record Closed (held : ℕ) (r : InCodes) : Type 0 where
  pub gaps_long : length r.gaps ≡ 64
  pub gaps_small : NetsSmall r.gaps
  pub given_small : Small (take held r.giving.given)
  pub left_small : Small (take held r.left)

-- step 3 (01, Expiry, 3.1; 01, Expiry, 3.2; 01, Expiry, 3.3)
pub record AcrossOf (held : ℕ) (ss : List Section) (failed : List ℕ) (r : Across) : Type 0 where
  pub d_is : r.d ≡ d_of ss failed
  pub sound_are : r.sound ≡ nets_of ss (left_of ss failed)
  pub gives : Gives held false ss (may_give_across ss (d_of ss failed) (left_of ss failed)) (across_of ss failed) r.giving
  pub kept_are : take held r.kept ≡ kept_of ss failed

-- step 4 (01, Expiry, 4.1; 01, Expiry, 4.2)
pub record OutsideOf (held : ℕ) (ss : List Section) (kept : List ℕ) (r : Outside) : Type 0 where
  pub nets_are : r.nets ≡ nets_of ss kept
  pub gives : Gives held true ss (may_give true ss (nets_of ss kept) kept) (outside ss kept) r.giving
  pub near_are : take held r.near ≡ inside ss kept

-- step 5 (01, Expiry, 5.1)
pub record DrawnOf (filed : ℕ) (ss : List Section) (ns : List Notice) (kept near : List ℕ) (r : Drawn) : Type 0 where
  pub inside_are : take filed r.inside ≡ drawn ss ns near
  pub beyond_are : take filed r.beyond ≡ less (drawn ss ns kept) (drawn ss ns near)
