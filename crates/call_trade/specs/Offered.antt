-- A trade by what a good book says of it: its marks and counts, and the sections at the places of the two.
use Rattle.std.specs.Prelude.{ℕ, min, ◌≤◌, Bool, cond, ◌||◌, leb, eqb, pos, neg_ℤ, nat_abs}
use Rattle.rules.specs.declared.{book.Section.Section, units.Kopecks.Kopecks}
use Rattle.rules.specs.Book.{position_of, basis_of, trades_most}
use Rattle.rules.specs.Calls.{first, size_refusals, exceeds}

-- the place of a section: its number, the last place where no place has that number (01, Book, 1)
abbrev pub place_of : ℕ → ℕ
place_of i = min i 127

-- 5, 10 and 11; 14 and 15; and the first of all that is said, 12 and 13 between them (01, Trade, 1)
abbrev pub party_number : Bool → ℕ → ℕ → ℕ → ℕ
party_number expired held buyer seller = cond expired 5 (cond (leb held buyer || leb held seller) 10 (cond (eqb buyer seller) 11 0))

abbrev pub room_number : Section → Section → ℕ → ℕ → ℕ
room_number s t trades lots = cond (exceeds s (pos lots) || exceeds t (neg_ℤ (pos lots))) 14 (cond (leb trades_most trades) 15 0)

abbrev pub first_said : ℕ → ℕ → ℕ → ℕ
first_said party size room = cond (eqb party 0) (cond (eqb size 0) room size) party

unfoldable pub offered_number : Bool → ℕ → ℕ → ℕ → Section → Section → ℕ → ℕ → ℕ → ℕ → ℕ
offered_number expired held r trades s t buyer seller price lots =
    first_said (party_number expired held buyer seller) (first (size_refusals r price lots)) (room_number s t trades lots)

-- what a section, the lots of a trade and an entry value keep to, so that the section can move (01, Book, 4; 01, Trade, 1)
pub record Movable (s : Section) (lots : ℕ) (value : Kopecks) : Type 0 where
  pub position : nat_abs (position_of s) ≤ 1_000_000
  pub basis : nat_abs (basis_of s) ≤ 21_000_000_000_000_000
  pub few : lots ≤ 10_000
  pub small : nat_abs value.0 ≤ 1_000_000_000
