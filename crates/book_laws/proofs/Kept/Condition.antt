-- An accepted condition call leaves a good book.
use Rattle.numbers.proofs.Words.{ℕ, arith, ◌≡◌, refl, sym, Bool, true, pos, +ℤ_idr}
use Rattle.rules.specs.declared.book.{Book.Book, Section.Section}
use Rattle.rules.specs.Book.{good, section_at, section_of_noughts}
use Rattle.rules.specs.Calls.{condition_number, marked, after_condition}
use Rattle.book_laws.proofs.Accepted.{condition}
use Rattle.book_laws.proofs.Good.{SectionGood, test}
use Rattle.book_laws.proofs.Held.{held_good}
use Rattle.book_laws.proofs.Kept.Sections.{Moves, still_good, unchanged, one_changed, restated_good}

-- only the mark changes
marked_moves : (trades : ℕ) (s : Section) (met : Bool) → SectionGood trades s → Moves trades s (marked s met) (pos 0) (pos 0)
unfolding marked
marked_moves trades s met was =
    record {
      code = refl;
      good = still_good was trades (marked s met) refl refl was.position was.basis;
      position = sym (+ℤ_idr _);
      basis = sym (+ℤ_idr _);
    }

pub condition_kept : (b : Book) (i : ℕ) (met : Bool) → condition_number b i ≡ 0 → good (after_condition b i met) ≡ true
unfolding after_condition
condition_kept b i met e =
    let call = condition b i e in
    let book = call.book in
    test _ (restated_good b _ b.last b.price b.trades book
    (one_changed book (unchanged b book b.trades (omega arith)) i call.known (section_of_noughts _) (marked (section_at b i) met)
    (marked_moves b.trades (section_at b i) met (held_good b book i call.known)))
    book.last book.trades)
