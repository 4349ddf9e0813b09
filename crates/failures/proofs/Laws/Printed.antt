-- What the program prints: which text it is, how long it is, and that no byte of the input is missed.
use Rattle.numbers.proofs.Words.{ℕ, ◌≤◌, ◌<◌, ◌^◌, arith, ◌≡◌, refl, sym, ap, subst, ◌∙◌, ⊎_elim, Bool, true, false, cond, List, [], ◌∷◌, take, length, length-append, eq-eqb, ne_eqb}
use Rattle.numbers.specs.Text.{bytes, decimal}
use Rattle.rules.specs.declared.book.{Book.Book, Failures.Failures}
use Rattle.rules.specs.declared.refusal.{Refusal.Refusal}
use Rattle.std.proofs.Common.{Result, Err}
use Rattle.rules.specs.Answers.{refusal_number, failures_answer_in}
use Rattle.file_opening.proofs.Laws.{refuses, refusal_few}
use Rattle.rules.specs.File.{misshapen}
use Rattle.rules.specs.Listing.{row, refusal_row}
use Rattle.rules.specs.Failures.{present_book, answer_row, failures_printed}
use Rattle.book_laws.proofs.Answers.{written}
use Rattle.listing.specs.Laid.{Laid}
use Rattle.listing.proofs.Laws.Most.{decimal_most}
use Rattle.listing.proofs.Laws.Parts.{Begun, begun_row, ended}
use Rattle.program_io.proofs.Start.{start}
use Rattle.file_present.specs.Present.{opening_of, present_of}
use Rattle.failures.specs.Prints.{row_for}

-- a refusal's row (02, n, 5)
pub refusal_most : (number : ℕ) → number < 256 → length (refusal_row number) ≤ 12
unfolding row bytes
refusal_most number h = simp length-append (omega (arith, decimal_most 2 number (omega (arith, h))))

pub refusal_short : (r : Refusal) → length (refusal_row (refusal_number r)) ≤ 12
refusal_short r = refusal_most (refusal_number r) (refusal_few r)

-- three counts of 32 bits (02, n, 2)
module _ (f : Failures) (full : f.full < 2 ^ 32) (part : f.part < 2 ^ 32) (none : f.none < 2 ^ 32) where
  abbrev counts : List (List ℕ)
  counts = decimal f.full ∷ decimal f.part ∷ decimal f.none ∷ []

  pub counts_most : length (row counts) ≤ 33
  unfolding row
  counts_most = simp length-append (omega (arith, decimal_most 9 f.full (omega (arith, full)), decimal_most 9 f.part (omega (arith, part)), decimal_most 9 f.none (omega (arith, none))))

  pub counts_begun : (was : List ℕ) → 33 ≤ length was → Begun was 0 (row counts) was 0 (ended counts)
  counts_begun was room = begun_row was 0 counts (omega (arith, counts_most, room))

-- an answer that is a refusal, in its row
refused_row : (r : Refusal) → refusal_row (refusal_number r) ≡ answer_row (failures_answer_in (Err r))
unfolding answer_row
refused_row r = sym (ap (λ (t : Bool). cond t (row (decimal 0 ∷ decimal 0 ∷ decimal 0 ∷ [])) (refusal_row (refusal_number r))) (ne_eqb (refusal_number r) 0 (refuses r)))

pub refused_laid : {a : Result Failures Refusal} {r : Refusal} → a ≡ Err r → {was now : List ℕ} {next : ℕ} → Laid was 0 (refusal_row (refusal_number r)) now next → Laid was 0 (answer_row (failures_answer_in a)) now next
refused_laid {a} {r} is {was} {now} {next} = subst (λ (text : List ℕ). Laid was 0 text now next) (refused_row r ∙ ap (λ (x : Result Failures Refusal). answer_row (failures_answer_in x)) (sym is))

-- of a file, by the book that it leaves, or its refusal (02, n, 2 and 5; 01, Reading, 1)
module _ (file asked : List ℕ) (named : List (List ℕ)) where
  abbrev by_number : Bool → List ℕ
  by_number t = elim t [ true ↦ row_for (present_book file) asked named | false ↦ refusal_row (opening_of file) ]

  pub prints_answer : (present_of file).number ≡ 0 → failures_printed file asked named ≡ row_for (present_of file).book asked named
  unfolding failures_printed present_of
  prints_answer e = ap by_number (eq-eqb (opening_of file) 0 e) ∙ ap (λ (b : Book). row_for b asked named) (written _ _ (present_book file) _ refl e)

  pub prints_refusal : ((present_of file).number ≡ 0 → ⊥) → failures_printed file asked named ≡ refusal_row (present_of file).number
  unfolding failures_printed present_of
  prints_refusal ne = ap by_number (ne_eqb (opening_of file) 0 ne)

-- what stands after the bytes that the program reads changes nothing (02, n, 1)
unshaped_printed : (file asked : List ℕ) (named : List (List ℕ)) → misshapen file ≡ true → failures_printed file asked named ≡ refusal_row 25
unfolding present_of
unshaped_printed file asked named e =
    let number : opening_of file ≡ 25 = rw e in
    prints_refusal file asked named (λ z. omega (arith, number, z)) ∙ ap refusal_row number

pub start_failures : (file asked : List ℕ) (named : List (List ℕ)) (most : ℕ) → 64_616 < most → failures_printed (take most file) asked named ≡ failures_printed file asked named
start_failures file asked named most h =
    ⊎_elim (λ (all : take most file ≡ file). ap (λ (f : List ℕ). failures_printed f asked named) all)
    (λ (bad : (misshapen file ≡ true) × (misshapen (take most file) ≡ true)). unshaped_printed (take most file) asked named bad.1 ∙ sym (unshaped_printed file asked named bad.0))
    (start file most h)
