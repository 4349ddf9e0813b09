-- The label of a file is the length of what is printed for it, and no label is longer than the buffer of the listing's program (02, m, 3).
use Rattle.numbers.proofs.Words.{ℕ, ◌≤◌, ◌<◌, le_trans, arith, ◌≡◌, refl, sym, ap, ◌∙◌, ⊎_elim, true, List, [], ◌∷◌, length, length-append, take}
use Rattle.numbers.specs.Text.{bytes, decimal}
use Rattle.numbers.proofs.Tests.{same_or_not}
use Rattle.std.specs.Prelude.{Result, Ok, Err}
use Rattle.std.specs.Result.{result_unwrap_or}
use Rattle.rules.specs.declared.refusal.Refusal.{Refusal}
use Rattle.rules.specs.Answers.{FileAnswer, label_answer_in}
use Rattle.rules.specs.Book.{good}
use Rattle.rules.specs.File.{Lent, read_whole, file_answer, file_lists}
use Rattle.rules.specs.Listing.{row, noughts, printed}
use Rattle.rules.specs.Label.{label_answer, label_printed, cut_to, listing_most, read_answer, LabelShown}
use Rattle.read_laws.proofs.Calls.{whole_sound}
use Rattle.listing.specs.Columns.{refused_row}
use Rattle.listing.proofs.Laws.Most.{decimal_few, listing_most_lem}
use Rattle.file_listing.proofs.Laws.{listable, roomy, prints_accepted, prints_refusal}
use Rattle.program_io.proofs.Start.{start_printed}
use Rattle.call_label.proofs.Laws.Label.{label_most}
use Rattle.call_label.proofs.Laws.Cut.{label_cut}
use Rattle.label.proofs.Laws.Fullest.{fullest_book, fullest_lists, fullest, fullest_wide}

-- what an accepted read hands out
module _ (file : List ℕ) {a : FileAnswer} (answer : a ≡ file_answer (read_whole file noughts)) (z : a.number ≡ 0) where
  read_accepted : (read_whole file noughts).number ≡ 0
  unfolding file_answer
  read_accepted = sym (ap (λ (x : FileAnswer). x.number) answer) ∙ z

  book_good : good a.book ≡ true
  unfolding file_answer
  book_good = ap (λ (x : FileAnswer). good x.book) answer ∙ (whole_sound file noughts read_accepted).book

  module _ {after : Lent} (lists : after ≡ file_lists (read_whole file noughts) noughts) where
    -- the register has room for the lines kept
    pub few_lines : a.kept ≤ 382
    few_lines = (listable file answer lists z).few

    -- its label is the length of what is printed (02, m, 3)
    pub label_is : label_answer a.book (cut_to a.kept after) ≡ record { number = 0; bytes = length (printed file) }
    label_is =
        let limits = listable file answer lists z in
        let room = roomy file answer lists z in
        label_cut a.book after a.kept book_good
        (record {
          buyers = le_trans limits.few room.0;
          elevators = le_trans limits.few room.1;
          sellers = le_trans limits.few room.2;
          lots = le_trans limits.few room.3;
        })
        (record {
          delivered = le_trans limits.held room.4;
          terminated = le_trans limits.held room.5;
          lapsed = le_trans limits.held room.6;
          sums = le_trans limits.held room.7;
        })
        limits
        ∙ ap (λ (text : List ℕ). record { number = 0; bytes = length text }) (sym (prints_accepted file answer lists z))

-- the row of a refusal, whatever its numbers
refused_few : (number place : ℕ) → length (refused_row number place) ≤ 50
unfolding row bytes
refused_few number place = simp length-append (omega (arith, decimal_few number, decimal_few place))

-- and so the program's row has at most 21 bytes
pub row_few : (file : List ℕ) → length (label_printed file) ≤ 21
unfolding label_printed row
row_few file = simp length-append (omega (arith, decimal_few (length (printed file))))

-- no file prints more than the buffer holds (02, m, 3)
printed_most : (file : List ℕ) → length (printed file) ≤ listing_most
printed_most file =
    ⊎_elim (λ (z : (read_answer file).number ≡ 0). omega (arith, ap length (prints_accepted file refl refl z), listing_most_lem (listable file {a = read_answer file} refl refl z)))
    (λ (ne : (read_answer file).number ≡ 0 → ⊥). omega (arith, ap length (prints_refusal file refl ne), refused_few (read_answer file).number (read_answer file).place))
    (same_or_not (read_answer file).number 0)

-- all that is shown (02, m, 3)
pub label_shown : LabelShown
label_shown =
    record {
      of_file = λ file e. label_is file refl e refl;
      most = label_most;
      reached = (fullest_book, fullest_lists, fullest_wide, fullest);
      printed_most = printed_most;
    }

-- what stands after the bytes that the program reads changes nothing (02, m, 1)
pub start_labelled : (file : List ℕ) (most : ℕ) → 64_616 < most → label_printed (take most file) ≡ label_printed file
unfolding label_printed
start_labelled file most h = ap (λ (text : List ℕ). row (decimal (length text) ∷ [])) (start_printed file most h)

-- the bytes that a label answers, 0 where it is refused
pub label_bytes : (label : Result ℕ Refusal) → result_unwrap_or label 0 ≡ (label_answer_in label).bytes
label_bytes (Ok bytes) = refl
label_bytes (Err refusal) = refl
