-- Who may give in a step, in which order, and what each gives.
use Rattle.std.specs.Prelude.{ℕ, ◌≡◌, Bool, List, take, ℤ}
use Rattle.rules.specs.Words.{entry_ℤ}
use Rattle.rules.specs.declared.book.{Section.Section}
use Rattle.rules.specs.Book.{position_of}
use Rattle.rules.specs.Expiry.{opposed, chosen, lower_section_code}
use Rattle.method_laws.specs.Giving.{sooner, on_side, in_order}
use Rattle.method_account.specs.declared.giving.{Giving.Giving}

-- the lots of the sections that may give: by their settlement code's number, on its other side in step 2 and on its side in step 4 (01, Expiry, 2.2; 01, Expiry, 4.1)
abbrev pub may_give : Bool → List Section → List ℤ → List ℕ → List ℕ
may_give outside ss numbers lots = chosen ss (λ (s : Section). on_side outside (position_of s) (entry_ℤ numbers s.settlement)) lots

-- and opposite to D in step 3 (01, Expiry, 3.3)
abbrev pub may_give_across : List Section → ℤ → List ℕ → List ℕ
may_give_across ss d lots = chosen ss (λ (s : Section). opposed (position_of s) d) lots

-- all of a step, in the fronts of arrays: `larger` where the larger gives first
pub record Gives (held : ℕ) (larger : Bool) (ss : List Section) (lots given : List ℕ) (g : Giving) : Type 0 where
  pub lots_are : take held g.lots ≡ lots
  pub order_are : take held g.order ≡ in_order (sooner larger) (lower_section_code ss) lots held
  pub given_are : take held g.given ≡ given
