-- An accepted session leaves a good book.
use Rattle.numbers.proofs.Words.{ℕ, ◌≤◌, arith, ◌≡◌, refl, sym, ap, ◌∙◌, true, List, map, map-map, length, drop, length-map, take_at, drop_at, length_front, pos, nat_abs, every, total_ℤ}
use Rattle.rules.specs.declared.{book.Book.Book, book.Section.Section, book.LastSession.LastSession, book.LastSession.TheVariants.None, book.LastSession.TheVariants.Day, book.LastSession.TheVariants.Evening, units.Kopecks.Kopecks}
use Rattle.numbers.proofs.Changed.{every_read, every_weaker}
use Rattle.value_laws.proofs.Value.{value_within, worth_within}
use Rattle.rules.specs.Book.{good, last_good, position_of, basis_of, section_good, held_sections, value_at}
use Rattle.rules.specs.Calls.{session_number, following, settled, after_session}
use Rattle.book_laws.proofs.Accepted.{session}
use Rattle.book_laws.proofs.Good.{Between, Good, section_facts, between_test, test}
use Rattle.book_laws.proofs.Held.{held_length}
use Rattle.book_laws.proofs.Margins.{worths_sum}
use Rattle.book_laws.proofs.Kept.Sections.{Changed, code_of, still_good, restated_good}

-- a basis of position·V is within its first limit
settled_good : (v : Kopecks) (trades : ℕ) → nat_abs v.0 ≤ 1_000_000_000 → (s : Section) → section_good trades s ≡ true → section_good 0 (settled v s) ≡ true
unfolding settled
settled_good v trades small s e =
    let was = section_facts trades s e in
    still_good was 0 (settled v s) refl refl was.position (worth_within s.position v was.position small)

last_following : (last : LastSession) (price : ℕ) → Between 1 10_000_000 price → last_good (following last) price ≡ true
last_following None price h = between_test h
last_following Day price h = between_test h
last_following Evening price h = between_test h

-- the sections held, each settled at a price
abbrev pub settled_sections : Book → ℕ → List Section
settled_sections b price = map (settled (value_at b price)) (held_sections b)

module _ (b : Book) (price : ℕ) (book : Good b) where
  front : length (settled_sections b price) ≡ b.held
  front = length-map (held_sections b) (settled (value_at b price)) ∙ held_length b book.section_places_lem book.held

  pub settled_held : held_sections (after_session b price) ≡ settled_sections b price
  unfolding after_session
  settled_held = take_at (settled_sections b price) (drop b.held b.sections) b.held front

  pub settled_rest : drop b.held (after_session b price).sections ≡ drop b.held b.sections
  unfolding after_session
  settled_rest = drop_at (settled_sections b price) (drop b.held b.sections) b.held front

  all_settled : price ≤ 10_000_000 → Changed b (after_session b price).sections 0 (pos 0) (pos 0)
  unfolding after_session settled
  all_settled most =
      let v = value_at b price in
      let held = held_sections b in
      let sound = settled_good v b.trades (value_within book.k.most most) in
      record {
        places = length_front b.sections (settled_sections b price) b.held (length-map held (settled v)) ∙ book.section_places_lem;
        rest = settled_rest;
        codes = ap (map code_of) settled_held ∙ map-map code_of (settled v) held;
        good = ap (every (section_good 0)) settled_held ∙ sym (every_read (settled v) (section_good 0) held) ∙ every_weaker (section_good b.trades) (λ (s : Section). section_good 0 (settled v s)) sound held book.sections;
        positions_sum = ap (λ (xs : List Section). total_ℤ (map position_of xs)) settled_held ∙ ap total_ℤ (map-map position_of (settled v) held) ∙ book.positions;
        bases_sum = ap (λ (xs : List Section). total_ℤ (map basis_of xs)) settled_held ∙ ap total_ℤ (map-map basis_of (settled v) held) ∙ worths_sum b price book;
      }

pub session_kept : (b : Book) (price room : ℕ) → session_number b price room ≡ 0 → good (after_session b price) ≡ true
unfolding after_session
session_kept b price room e =
    let call = session b price room e in
    test _ (restated_good b _ (following b.last) price 0 call.book (all_settled b price call.book call.price_range.most) (last_following b.last price call.price_range) (omega arith))
