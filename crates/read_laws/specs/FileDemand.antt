-- Demand 3 of what an accepted read hands out.
use Rattle.std.specs.Prelude.{ℕ, ◌<◌, ◌≡◌, List, pos, ◌-ℤ◌}
use Rattle.rules.specs.Words.{listed, entry_ℤ, total_ℤ}
use Rattle.rules.specs.Answers.{FileAnswer}
use Rattle.rules.specs.Units.{worth}
use Rattle.rules.specs.Book.{held_sections, filed_notices}
use Rattle.rules.specs.Expiry.Call.{lines}
use Rattle.rules.specs.File.{Lent, read_whole, file_answer, file_lists}
use Rattle.rules.specs.History.{Accepted, accepted, trades, sessions, last_value, net, entered, Delivered, Holds, DemandThree}
use Rattle.read_laws.specs.ReadCalls.{start_of, calls_of}

-- the accepted calls of a file
abbrev pub accepted_in : List ℕ → Lent → List Accepted
accepted_in file lent = accepted (start_of file) (calls_of file lent)

-- an accepted read of a file: the lists lent `before`, its answer, and the lists `after`
pub record FileHolds (file : List ℕ) (before : Lent) (a : FileAnswer) (after : Lent) : Type 0 where
  -- of its calls (demand 3; 01, Reading, 1)
  pub calls : Holds (accepted_in file before)
  -- the margin sums of all sections sum to zero (demand 3.1; 01, Reading, 5)
  pub sums_even : total_ℤ (listed a.book.held (entry_ℤ after.sums)) ≡ pos 0
  -- the lists and the line counts are such as demand 3 asks of an expiry, given all trades of the file (demand 3.2; demand 3.3; demand 3.4; 01, Reading, 5; 02, a, 3 and 5 and 6 and 7)
  pub delivered :
      Delivered (trades (accepted_in file before))
      (record { book = a.book; lists = after.lists; formed = lines (held_sections a.book) (filed_notices a.book); lines = a.lines; kept = a.kept })
  -- each section's sum: its net lots at the last session's value, less its entry values, over all trades of the file (demand 3.5; 01, Reading, 5)
  pub telescoped :
      (i : ℕ) → i < a.book.held →
      entry_ℤ after.sums i ≡
      (let all = trades (accepted_in file before) in (worth (record { 0 = net all i }) (last_value (sessions (accepted_in file before)))).0 -ℤ entered all i)

-- it follows from demand 3 over every list of calls (demand 3)
unfoldable pub FileDemand : Type 0
FileDemand =
    DemandThree → (file : List ℕ) (lent : Lent) → (read_whole file lent).number ≡ 0 →
    (let run = read_whole file lent in FileHolds file lent (file_answer run) (file_lists run lent))
