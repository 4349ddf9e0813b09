-- Where the program stands in what it prints of a file.
use Rattle.std.specs.Prelude.{ℕ, ◌-◌, ◌≤◌, ◌≡◌, true, false, List, ◌++◌}
use Rattle.rules.specs.declared.book.{Book.Book}
use Rattle.rules.specs.Book.{good}
use Rattle.rules.specs.File.{events_in, misshapen}
use Rattle.rules.specs.CallsListing.{shown_from, calls_printed}

-- so much is done, and the events from the place on print the rest (01, Calls, 3)
pub record Printing (file : List ℕ) (n place : ℕ) (b : Book) : Type 0 where
  pub shaped : misshapen file ≡ false
  pub events : n ≡ events_in file
  pub within : place ≤ n
  pub book : good b ≡ true
  pub done : List ℕ
  pub whole : calls_printed file ≡ done ++ shown_from file (n - place) place b
