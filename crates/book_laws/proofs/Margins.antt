-- The margins of an accepted session: it writes them for the sections held, and they sum to zero, because positions and bases do (demand 3.1; 01, Book, 4).
use Rattle.numbers.proofs.Words.{ℕ, ◌≡◌, refl, sym, ap, ap₂, ◌∙◌, List, ◌++◌, map, length, take, drop, length-map, take-append_seam, ℤ, pos, ◌-ℤ◌, ◌*ℤ◌, zero-*ℤ, total_ℤ}
use Rattle.rules.specs.declared.book.{Book.Book, Section.Section}
use Rattle.numbers.proofs.Sums.{total_product, total_difference}
use Rattle.rules.specs.Units.{worth}
use Rattle.rules.specs.Book.{position_of, basis_of, held_sections, value_at}
use Rattle.rules.specs.Calls.{session_number, margin_of, margins, session_margins}
use Rattle.book_laws.proofs.Accepted.{session}
use Rattle.book_laws.proofs.Answers.{written}
use Rattle.book_laws.proofs.Good.{Good}
use Rattle.book_laws.proofs.Held.{held_length}

-- what the positions are worth at a price sums to V times their sum
pub worths_sum : (b : Book) (price : ℕ) → Good b → total_ℤ (map (λ (s : Section). (worth s.position (value_at b price)).0) (held_sections b)) ≡ pos 0
unfolding worth
worths_sum b price book =
    let v = (value_at b price).0 in
    total_product position_of v (held_sections b) ∙ ap (λ (z : ℤ). z *ℤ v) book.positions ∙ zero-*ℤ v

pub margins_sum : (b : Book) (price room : ℕ) → session_number b price room ≡ 0 → total_ℤ (margins b price) ≡ pos 0
unfolding margins margin_of
margins_sum b price room e =
    let book = (session b price room e).book in
    total_difference (λ (s : Section). (worth s.position (value_at b price)).0) basis_of (held_sections b)
    ∙ ap₂ ◌-ℤ◌ (worths_sum b price book) book.bases

-- there is one for each section held, and an accepted session writes them (01, Session, 3; 01, Calls, 5)
pub margins_length : (b : Book) (price : ℕ) → Good b → length (margins b price) ≡ b.held
unfolding margins
margins_length b price book = length-map (held_sections b) (margin_of (value_at b price)) ∙ held_length b book.section_places_lem book.held

pub margins_written : (b : Book) (price : ℕ) (list : List ℤ) → session_number b price (length list) ≡ 0 → take b.held (session_margins b price list) ≡ margins b price
unfolding session_margins
margins_written b price list e =
    ap (take b.held) (sym (written _ _ _ list refl e))
    ∙ ap (λ (k : ℕ). take k (margins b price ++ drop (length (margins b price)) list)) (sym (margins_length b price (session b price (length list) e).book))
    ∙ take-append_seam (margins b price) (drop (length (margins b price)) list)
