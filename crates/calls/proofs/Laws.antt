-- The program's steps: each prints the next part of the whole; and that no byte of the input is missed.
use Rattle.numbers.proofs.Words.{ℕ, ◌-◌, ◌≤◌, ◌<◌, arith, ◌≡◌, sym, ap, ◌∙◌, ⊎_elim, true, List, [], ◌∷◌, ◌++◌, append_assoc, take, length}
use Rattle.rules.specs.declared.book.{Book.Book}
use Rattle.numbers.specs.Text.{bytes, decimal}
use Rattle.rules.specs.File.{misshapen}
use Rattle.rules.specs.Listing.{row}
use Rattle.rules.specs.CallsListing.{shown_from, calls_printed}
use Rattle.listing.proofs.Laws.Laid.{laid_length}
use Rattle.file_opening.specs.declared.{Opening.Opening}
use Rattle.file_calls.specs.declared.{Shown.Shown}
use Rattle.file_calls.specs.Steps.{Started, Stands, Steps}
use Rattle.program_io.proofs.Start.{start}
use Rattle.calls.specs.Printing.{Printing}

-- the start: nothing is done (01, Reading, 1)
pub printing_start : {file was now : List ℕ} {o : Opening} → Started file was now o → Printing file o.events 0 o.book
printing_start {file = file} {o = o} started =
    let none : o.events ≡ o.events - 0 = omega arith in
    record {
      shaped = started.opened.shaped;
      events = started.opened.events_are;
      within = omega arith;
      book = started.opened.good_book;
      done = [];
      whole = started.shown ∙ ap (λ (left : ℕ). shown_from file left 0 o.book) none;
    }

module _ {file : List ℕ} {n place : ℕ} {b : Book} (p : Printing file n place b) where
  pub stands : {out : List ℕ} → place < n → length out ≡ 34_200 → Stands file n place b out
  stands below room = record { shaped = p.shaped; events = p.events; below = below; book = p.book; room = omega (arith, room) }

  -- a step: its text comes next
  pub printing_next : {was now : List ℕ} {s : Shown} → Steps file n place b was now s → Printing file n s.next s.book
  printing_next step =
      record {
        shaped = p.shaped;
        events = p.events;
        within = step.within;
        book = step.book;
        done = p.done ++ step.text;
        whole = p.whole ∙ ap (λ (rest : List ℕ). p.done ++ rest) step.rest ∙ sym (append_assoc p.done step.text _);
      }

-- a step's text stands within the list lent, which keeps its length
module _ {file : List ℕ} {n place : ℕ} {b : Book} {was now : List ℕ} {s : Shown} (step : Steps file n place b was now s) (room : length was ≡ 34_200) where
  pub step_long : length now ≡ 34_200
  step_long = laid_length step.text step.laid (omega (arith, step.short, room)) ∙ room

  pub step_within : s.written ≤ length now
  step_within = omega (arith, step_long, step.laid.ends, step.short)

-- a misshapen file prints its refusal, whatever its bytes (01, Reading, 1; 01, Program, 2)
bad_shown : (file : List ℕ) → misshapen file ≡ true → calls_printed file ≡ row (bytes "refused" ∷ decimal 25 ∷ decimal 0 ∷ [])
unfolding calls_printed
bad_shown file e = rw (e, calls_printed, e)

-- so what comes after the bytes that the program reads changes nothing (01, Reading, 1)
pub start_shown : (file : List ℕ) (most : ℕ) → 64_616 < most → calls_printed (take most file) ≡ calls_printed file
start_shown file most h =
    ⊎_elim (λ (same : take most file ≡ file). ap calls_printed same)
    (λ (bad : (misshapen file ≡ true) × (misshapen (take most file) ≡ true)). bad_shown (take most file) bad.1 ∙ sym (bad_shown file bad.0))
    (start file most h)
