-- The lines taken out of a good book's expiry, by the participants of its sections (document 02, a).
use Rattle.numbers.proofs.Words.{ℕ, ◌+◌, ◌≤◌, ◌<◌, le_trans, arith, ◌≡◌, sym, ap, ap₂, ◌∙◌, Bool, not, cond, ◌&&◌, List, [], map, eqb, ⊎_elim, length, length-map, get_or, get_or-map, listed, entry, passing, total}
use Rattle.rules.specs.declared.book.{Book.Book, Section.Section, Notice.Notice}
use Rattle.numbers.proofs.Ranges.{listed_at, listed_past, listed_same}
use Rattle.numbers.proofs.Tests.{below_or_not}
use Rattle.numbers.proofs.Passing.{passing-length}
use Rattle.rules.specs.Book.{held_sections, filed_notices, section_of, notice_of, section_of_noughts}
use Rattle.rules.specs.Expiry.Passes.{Line}
use Rattle.rules.specs.Expiry.SamePerson.{same_person, removed_of, kept_of, lots_naming, lapsed_of}
use Rattle.rules.specs.Expiry.Call.{lines, kept, lapsed}
use Rattle.book_laws.proofs.Good.{Good}
use Rattle.book_laws.proofs.Held.{held_codes, held_told, filed_good}
use Rattle.method_laws.specs.Columns.{participants_of, Small}
use Rattle.method_laws.proofs.Lines as register
use Rattle.method_laws.proofs.Removal
use Rattle.method_passes.specs.declared.register.{Register.Register}
use Rattle.method_passes.specs.Formed.{line_in, lines_in}
use Rattle.method_passes.proofs.Arrays.{lines_count}
use Rattle.method_removal.specs.Removed.{one_by, kept_by, lapsed_by, Known}
use Rattle.method_delivery.specs.Lent.{lines_for, kept_for, remaining_of}
use Rattle.method_delivery.proofs.Book.{sections_held, few_lines}

-- by the column of the participants and by the sections (02, a, 1)
one_is : (ss : List Section) → one_by (participants_of ss) ≡ same_person ss
one_is ss j l =
    let person : (i : ℕ) → entry (participants_of ss) i ≡ (section_of ss i).participant = λ i. get_or-map (λ (s : Section). s.participant) ss i (section_of_noughts []) in
    ap₂ eqb (person l.buyer) (person l.seller) j

module _ {b : Book} (book : Good b) where
  abbrev ss : List Section
  ss = held_sections b

  abbrev ns : List Notice
  ns = filed_notices b

  selling : (k : ℕ) → k < length ns → (notice_of ns k).section < length ss
  selling k h = omega (arith, sections_held book, (filed_good b book k h).section)

  standing : (k : ℕ) → k < length ns → (notice_of ns k).elevator < 32
  standing k h = omega (arith, (filed_good b book k h).elevator)

  -- the register has a place for each line kept (02, a, 6)
  pub few_kept : length (kept_for b) ≤ 382
  unfolding kept kept_of
  few_kept = le_trans (passing-length _ (lines_for b)) (few_lines book)

  -- no more lapses of a section than the method leaves it (02, a, 5)
  pub lapsed_below : (i : ℕ) → i < length ss → entry (lapsed ss ns) i ≤ entry (remaining_of b) i
  lapsed_below = Removal.lapsed_within ss ns (held_codes b book) (held_told b book) book.positions selling standing

  pub lapsed_small : Small (remaining_of b) → Small (lapsed ss ns)
  unfolding lapsed lapsed_of
  lapsed_small small i =
      ⊎_elim (λ (h : i < length ss). le_trans (lapsed_below i h) (small i))
      (λ (h : length ss ≤ i). omega (arith, listed_past (length ss) (lots_naming (removed_of ss (lines ss ns))) i 0 h))
      (below_or_not i (length ss))

  pub participants_long : {participants : List ℕ} → participants ≡ participants_of ss → length participants ≡ length ss
  participants_long persons = ap length persons ∙ length-map ss (λ (s : Section). s.participant)

  module _ {participants : List ℕ} (persons : participants ≡ participants_of ss) (g : Register) (formed : lines_in g ≡ lines_for b) where
    -- the lines of its register are of its sections, and the lots few
    pub known : Known participants g
    known =
        let count : g.count ≡ length (lines_for b) = sym (lines_count g) ∙ ap length formed in
        let blank : Line = record { buyer = 0; elevator = 0; seller = 0; lots = 0 } in
        let at : (read : Line → ℕ) (k : ℕ) → k < g.count → read (line_in g k) ≡ read (get_or (lines_for b) k blank) =
        λ read k h. ap read (sym (listed_at g.count (line_in g) k blank h)) ∙ ap (λ (ls : List Line). read (get_or ls k blank)) formed in
        let line : (k : ℕ) → k < g.count → register.Within (length ss) 1_000_000 (get_or (lines_for b) k blank) =
        λ k h. register.line_within ss ns 1_000_000 selling (λ n l. (filed_good b book n l).lots) k (omega (arith, h, count)) in
        record {
          few = omega (arith, count, few_lines book);
          sections = omega (arith, participants_long persons, sections_held book, book.held);
          buyers = λ k h. omega (arith, participants_long persons, at (λ l. l.buyer) k h, (line k h).buyer);
          sellers = λ k h. omega (arith, participants_long persons, at (λ l. l.seller) k h, (line k h).seller);
          lots = λ k h. omega (arith, at (λ l. l.lots) k h, (line k h).lots);
        }

    -- the lines kept (02, a, 3)
    pub kept_is : kept_by participants (lines_in g) ≡ kept_for b
    unfolding kept kept_of
    kept_is = ap₂ kept_by persons formed ∙ ap (λ (same : Line → Bool). passing (λ (l : Line). not (same l)) (lines_for b)) (one_is ss)

    -- what lapses (02, a, 4)
    pub lapsed_is : lapsed_by participants (lines_in g) ≡ lapsed ss ns
    unfolding lapsed lapsed_of
    lapsed_is =
        let lots : (Line → Bool) → (Line → ℕ) → ℕ → ℕ = λ (same : Line → Bool) (side : Line → ℕ) (i : ℕ). total (map (λ (l : Line). cond (eqb (side l) i && same l) l.lots 0) (lines_for b)) in
        ap₂ lapsed_by persons formed
        ∙ ap₂ (λ (n : ℕ) (same : Line → Bool). listed n (λ (i : ℕ). lots same (λ (l : Line). l.buyer) i + lots same (λ (l : Line). l.seller) i)) (length-map ss (λ (s : Section). s.participant)) (one_is ss)
        ∙ listed_same (length ss) _ _ (λ i h. Removal.lapsed_sides ss ns (held_codes b book) (held_told b book) book.positions selling standing i h)
