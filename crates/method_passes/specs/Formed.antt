-- Pairs and lines as the code has them, in arrays that it fills from the start; the stages of a pass with turns enough; what they ask of their columns.
use Rattle.std.specs.Prelude.{ℕ, ◌≡◌, ◌+◌, ◌≤◌, ◌<◌, min, Bool, List, length, set}
use Rattle.rules.specs.Words.{listed, entry}
use Rattle.rules.specs.Book.{elevators}
use Rattle.rules.specs.Expiry.Passes.{Pair, Line, pair_of, with_lots, offers, elevator_lots, fullest_pair, fullest_notice, stage_one, stage_two}
use Rattle.method_passes.specs.declared.{pairs.Pairs.Pairs, register.Register.Register, stage_two.Choice.Choice}

-- the pairs formed
abbrev pub pairs_in : Pairs → List Pair
pairs_in ps = listed ps.count (λ (k : ℕ). record { buyer = entry ps.buyers k; elevator = entry ps.elevators k; lots = entry ps.lots k })

-- pair p with so many lots left
abbrev pub pair_left : List Pair → ℕ → ℕ → List Pair
pair_left ps p left = set ps p (with_lots (pair_of ps p) left)

-- the line at a place, and the lines formed
abbrev pub line_in : Register → ℕ → Line
line_in g k = record { buyer = entry g.buyers k; elevator = entry g.elevators k; seller = entry g.sellers k; lots = entry g.lots k }

abbrev pub lines_in : Register → List Line
lines_in g = listed g.count (line_in g)

-- the next line: of which pair and of which notice, and how much (01, Expiry, 6.3)
abbrev pub next_choice : (ℕ → ℕ → Bool) → List ℕ → List ℕ → List Pair → List ℕ → Choice
next_choice lower sellers stands ps drawn =
    let p = fullest_pair lower ps in
    let e = (pair_of ps p).elevator in
    let k = fullest_notice lower sellers stands drawn e in
    record { pair = p; notice = k; lots = min (pair_of ps p).lots (entry (offers stands drawn e) k) }

-- the pairs of buyers' lots and elevators' lots (01, Expiry, 6.2)
abbrev pub pairs_from : (ℕ → ℕ → Bool) → List ℕ → List ℕ → List Pair
pairs_from lower buyers stocks = stage_one lower (length buyers + elevators) buyers stocks

-- the lines of pairs and of what is drawn of the notices (01, Expiry, 6.3)
abbrev pub lines_from : (ℕ → ℕ → Bool) → List ℕ → List ℕ → List Pair → List ℕ → List Line
lines_from lower sellers stands ps drawn = stage_two lower sellers stands (length ps + length stands) ps drawn

-- a pass by its columns: its pairs, then its lines (01, Expiry, 6.1)
abbrev pub pass_pairs : (ℕ → ℕ → Bool) → List ℕ → List ℕ → List ℕ → List Pair
pass_pairs lower stands buyers drawn = pairs_from lower buyers (elevator_lots stands drawn)

abbrev pub pass_lines : (ℕ → ℕ → Bool) → List ℕ → List ℕ → List ℕ → List ℕ → List Line
pass_lines lower sellers stands buyers drawn = lines_from lower sellers stands (pass_pairs lower stands buyers drawn) drawn

-- there are not too many pairs, and each is of a known section
pub record Known (ps : List Pair) (sections : ℕ) : Type 0 where
  pub few : length ps ≤ 160
  pub buyer : (k : ℕ) → k < length ps → (pair_of ps k).buyer < sections

-- what is drawn of the notices: columns of one length, each notice at an elevator, not too much of it
pub record Drawn (stands drawn : List ℕ) : Type 0 where
  pub few : length stands ≤ 256
  pub long : length drawn ≡ length stands
  pub standing : (k : ℕ) → k < length stands → entry stands k < 32
  pub small : (k : ℕ) → entry drawn k ≤ 1_000_000

-- and sold by whom: each seller is a known section
pub record Sold (sellers stands drawn : List ℕ) (sections : ℕ) : Type 0 where
  pub notices : Drawn stands drawn
  pub long : length sellers ≡ length stands
  pub seller : (k : ℕ) → k < length stands → entry sellers k < sections
