-- Lines that sell to the same person, by the participants of the sections (document 02, a).
use Rattle.std.specs.Prelude.{ℕ, ◌+◌, ◌≤◌, ◌<◌, Bool, not, cond, List, map, eqb, length}
use Rattle.rules.specs.Words.{◌and◌, passing, listed, entry, total}
use Rattle.rules.specs.Expiry.Passes.{Line}
use Rattle.method_passes.specs.declared.register.{Register.Register}
use Rattle.method_passes.specs.Formed.{line_in}

-- a line whose buyer and seller are one person; the lines kept (02, a, 3)
abbrev pub one_by : List ℕ → Line → Bool
one_by participants l = eqb (entry participants l.buyer) (entry participants l.seller)

abbrev pub kept_by : List ℕ → List Line → List Line
kept_by participants = passing (λ (l : Line). not (one_by participants l))

-- the lots of each line that is taken out, and 0 for one that is kept (02, a, 4)
abbrev pub removed_by : List ℕ → Register → List ℕ
removed_by participants g = listed g.count (λ (k : ℕ). cond (one_by participants (line_in g k)) (entry g.lots k) 0)

-- what lapses of each section: its lots in the lines taken out, bought and sold (02, a, 4)
abbrev pub lapsed_by : List ℕ → List Line → List ℕ
lapsed_by participants ls =
    let lots : (Line → ℕ) → ℕ → ℕ = λ (side : Line → ℕ) (i : ℕ). total (map (λ (l : Line). cond (eqb (side l) i and one_by participants l) l.lots 0) ls) in
    listed (length participants) (λ (i : ℕ). lots (λ (l : Line). l.buyer) i + lots (λ (l : Line). l.seller) i)

-- each line is of two sections that have a participant, and has few lots
pub record Known (participants : List ℕ) (g : Register) : Type 0 where
  pub few : g.count ≤ 382
  pub sections : length participants ≤ 128
  pub buyers : (k : ℕ) → k < g.count → entry g.buyers k < length participants
  pub sellers : (k : ℕ) → k < g.count → entry g.sellers k < length participants
  pub lots : (k : ℕ) → k < g.count → entry g.lots k ≤ 1_000_000
