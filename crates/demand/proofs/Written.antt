-- What an accepted expiry writes into the lists that it is lent, read as lines.
use Rattle.numbers.proofs.Words.{ℕ, ◌+◌, ◌<◌, arith, ◌≡◌, ap, ap₂, ◌∙◌, List, [], map, nat_abs, length, get_or-take, not-false, listed, entry, less}
use Rattle.rules.specs.declared.book.{Book.Book, Section.Section, Notice.Notice}
use Rattle.numbers.proofs.Changed.{read_at}
use Rattle.numbers.proofs.Ranges.{less_at, Left, left_all, left_less}
use Rattle.rules.specs.Book.{held_sections, filed_notices, section_at, section_of, section_of_noughts, position_of}
use Rattle.rules.specs.Calls.{first, handed_out, count}
use Rattle.rules.specs.Expiry.{size}
use Rattle.rules.specs.Expiry.Failing.{failing}
use Rattle.rules.specs.Expiry.Codes.{d_of_codes, given_in_codes}
use Rattle.rules.specs.Expiry.Across.{d_overall, given_across}
use Rattle.rules.specs.Expiry.Call.{Lists, line_of, remaining, terminated, lines, kept, lapsed, delivered, expiry_refusals, expiry_answer, expiry_written, expiry_lists}
use Rattle.rules.specs.History.{Register, register_lines}
use Rattle.book_laws.proofs.Answers.{first_none}
use Rattle.book_laws.proofs.ExpiryLists.{register_written, delivered_written, terminated_written, lapsed_written}
use Rattle.book_laws.proofs.Good.{Good, facts}
use Rattle.book_laws.proofs.Held.{held_length}

-- what the method leaves of the sections' lots
remaining_left : (ss : List Section) (ns : List Notice) → Left (map size ss) (remaining ss ns)
unfolding remaining
remaining_left ss ns =
    let sizes = map size ss in
    let failed = failing ss ns in
    let sound = less sizes failed in
    let gap = d_of_codes ss failed in
    let given = given_in_codes ss gap sound in
    let left = less sound given in
    left_less sizes left (given_across ss (d_overall ss gap given) left) (left_less sizes sound given (left_less sizes sizes failed (left_all sizes)))

-- the two make up each section's lots (01, Expiry, 1.2)
remaining_terminated : (ss : List Section) (ns : List Notice) (i : ℕ) → i < length ss → entry (remaining ss ns) i + entry (terminated ss (remaining ss ns)) i ≡ size (section_of ss i)
unfolding terminated
remaining_terminated ss ns i h = omega (arith, less_at (map size ss) (remaining ss ns) i, (remaining_left ss ns).within i, read_at size ss i (section_of_noughts []) 0 h)

module _ (b : Book) (ls : Lists) (accepted : first (expiry_refusals b ls) ≡ 0) where
  abbrev ss : List Section
  ss = held_sections b

  abbrev ns : List Notice
  ns = filed_notices b

  -- the register of the expiry, as a list of calls sees it
  abbrev pub written : Register
  written = record { book = b; lists = expiry_lists b ls; formed = lines ss ns; lines = (expiry_answer b ls).lines; kept = (expiry_answer b ls).kept }

  -- the book of an accepted expiry is good
  pub written_book : Good b
  unfolding expiry_refusals
  written_book = facts b (not-false _ (first_none _ _ (omega arith) accepted).0)

  -- it counts all lines formed, and the lines kept (01, Calls, 7; 02, a, 6)
  pub written_lines : written.lines ≡ length (lines ss ns)
  unfolding expiry_answer
  written_lines = ap (λ (n : ℕ). count n (lines ss ns)) accepted

  written_kept : written.kept ≡ length (kept ss ns)
  unfolding expiry_answer
  written_kept = ap (λ (n : ℕ). count n (kept ss ns)) accepted

  -- and hands out the lists written (01, Calls, 5)
  written_lists : written.lists ≡ expiry_written b ls
  unfolding expiry_lists
  written_lists = ap (λ (n : ℕ). handed_out n (expiry_written b ls) ls) accepted

  -- the register is the lines kept (01, Calls, 7; 02, a, 6)
  pub written_register : register_lines written ≡ kept ss ns
  unfolding register_lines
  written_register = ap₂ (λ (n : ℕ) (w : Lists). listed n (line_of w)) written_kept written_lists ∙ register_written b ls

  sections_held : length ss ≡ b.held
  sections_held = held_length b written_book.section_places_lem written_book.held

  -- delivered, terminated and lapsed lots of a section held
  module _ (i : ℕ) (h : i < b.held) where
    held : i < length ss
    held = omega (arith, h, sections_held)

    pub written_delivered : entry written.lists.delivered i ≡ entry (delivered ss ns) i
    written_delivered = ap (λ (w : Lists). entry w.delivered i) written_lists ∙ delivered_written b ls i held

    pub written_lapsed : entry written.lists.lapsed i ≡ entry (lapsed ss ns) i
    written_lapsed = ap (λ (w : Lists). entry w.lapsed i) written_lists ∙ lapsed_written b ls i held

    -- the terminated lots and those that the method leaves make up the size of its position (01, Expiry, 1.2)
    pub made_up : entry (remaining ss ns) i + entry written.lists.terminated i ≡ nat_abs (position_of (section_at b i))
    made_up =
        ap (λ (w : Lists). entry (remaining ss ns) i + entry w.terminated i) written_lists
        ∙ ap (λ (n : ℕ). entry (remaining ss ns) i + n) (terminated_written b ls i held)
        ∙ remaining_terminated ss ns i held
        ∙ ap size (get_or-take b.held b.sections i (section_of_noughts []) h)
