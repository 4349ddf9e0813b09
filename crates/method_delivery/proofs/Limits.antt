-- What an expiry writes keeps to the limits of lines and of positions.
use Rattle.numbers.proofs.Words.{ℕ, ◌≤◌, ◌<◌, arith, ◌≡◌, subst, List, [], map, length, get_or-map, entry}
use Rattle.rules.specs.declared.book.{Book.Book, Section.Section, Notice.Notice}
use Rattle.numbers.proofs.Ranges.{less_at}
use Rattle.rules.specs.Book.{section_of, section_of_noughts, held_sections, filed_notices}
use Rattle.rules.specs.Expiry.{size}
use Rattle.rules.specs.Expiry.Call.{Lists, line_of, remaining, terminated, kept, lapsed, delivered, expiry_written}
use Rattle.book_laws.proofs.Good.{Good}
use Rattle.book_laws.proofs.ExpiryLists.{line_written, delivered_written, terminated_written, lapsed_written}
use Rattle.book_laws.proofs.Held.{held_length, listed_good, filed_good, held_codes, held_told}
use Rattle.method_laws.proofs.Sides.{Within}
use Rattle.method_laws.proofs.Steps.{within_kept}
use Rattle.method_laws.proofs.Lines as register
use Rattle.method_delivery.proofs.Taken.{lapsed_below}

-- no more is terminated than a position has (01, Expiry, 1.2)
terminated_within : (ss : List Section) (kept : List ℕ) (i : ℕ) → entry (terminated ss kept) i ≤ size (section_of ss i)
unfolding terminated
terminated_within ss kept i = omega (arith, less_at (map size ss) kept i, get_or-map size ss i (section_of_noughts []))

module _ (b : Book) (book : Good b) (before : Lists) where
  abbrev ss : List Section
  ss = held_sections b

  abbrev ns : List Notice
  ns = filed_notices b

  abbrev after : Lists
  after = expiry_written b before

  held : length ss ≡ b.held
  held = held_length b book.section_places_lem book.held

  -- each line of the register (01, Expiry, 6.3; 01, Expiry call, 2)
  pub line_limits : (i : ℕ) → i < length (kept ss ns) → (entry after.buyers i < b.held) × (entry after.elevators i ≤ 31) × (entry after.sellers i < b.held) × (entry after.lots i ≤ 1_000_000) × (0 < entry after.lots i)
  line_limits i h =
      let l : register.Within (length ss) 1_000_000 (line_of after i) =
      subst (register.Within (length ss) 1_000_000) (line_written b before i h) (register.kept_within ss ns 1_000_000 (λ k j. omega (arith, held, (filed_good b book k j).section)) (λ k j. (filed_good b book k j).lots) i h) in
      (omega (arith, held, l.buyer), omega (arith, l.elevator), omega (arith, held, l.seller), l.lots, l.some)

  -- no more of a section is delivered, terminated or lapsed than its position has (01, Expiry, 1.2; 02, a, 5)
  pub section_limits : (i : ℕ) → i < b.held → (entry after.delivered i ≤ 1_000_000) × (entry after.terminated i ≤ 1_000_000) × (entry after.lapsed i ≤ 1_000_000)
  unfolding delivered Within
  section_limits i h =
      let place : i < length ss = omega (arith, h, held) in
      let most = (listed_good b book i place).position in
      let left = within_kept ss ns (held_codes b book) (held_told b book) book.positions i in (
        omega (arith, most, left, delivered_written b before i place, less_at (remaining ss ns) (lapsed ss ns) i),
        omega (arith, most, terminated_within ss (remaining ss ns) i, terminated_written b before i place),
        omega (arith, most, left, lapsed_below book i place, lapsed_written b before i place),
      )
