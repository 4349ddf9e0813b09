-- The columns of a good book: keys tell its sections apart and order them as section codes do, and every column keeps the limits that the method asks for.
use Rattle.numbers.proofs.Words.{ℕ, ◌≤◌, ◌<◌, arith, ◌≡◌, refl, sym, ap, ap₂, ◌∙◌, true, false, ⊎_elim, List, [], ltb, length, get_or-map, ℤ, pos, nat_abs, eq-eqb, le-ltb, big_endian, entry, entry_ℤ}
use Rattle.rules.specs.declared.book.{Book.Book, Section.Section}
use Rattle.numbers.proofs.Ranges.{get_d_past, listed_most}
use Rattle.numbers.proofs.Tests.{together, below_or_not}
use Rattle.numbers.proofs.Under.{under_within}
use Rattle.rules.specs.Book.{held_sections, filed_notices, section_of, section_of_noughts, section_code_good}
use Rattle.rules.specs.Expiry.{size, lower_section_code}
use Rattle.rules.specs.Expiry.Failing.{fails, failing}
use Rattle.rules.specs.Expiry.Passes.{sellers_in, elevators_in}
use Rattle.book_laws.proofs.Good.{Good}
use Rattle.book_laws.proofs.Held.{listed_good, filed_good, held_codes, held_told}
use Rattle.method_laws.specs.Columns.{Columns, by_key, settlements_of, positions_of, keys_of, notice_lots_in}
use Rattle.method_laws.proofs.Columns.{code_at, position_at, codes_long, positions_long, seller_at, stand_at, lots_at_lem, sellers_long, stands_long, lots_long}
use Rattle.section_code.proofs.Laws.{code_before}
use Rattle.method_columns.specs.Failing.{failing_with}

module _ (b : Book) (book : Good b) where
  abbrev ss : List Section
  ss = held_sections b

  code_good : (i : ℕ) → i < length ss → section_code_good (section_of ss i).code ≡ true
  code_good i h =
      let section = listed_good b book i h in
      together (eq-eqb _ _ section.code_length) section.code_bytes

  module _ {keys : List ℕ} (e : keys ≡ keys_of ss) where
    key_at : (i : ℕ) → entry keys i ≡ big_endian (section_of ss i).code
    unfolding big_endian
    key_at i = ap (λ (ks : List ℕ). entry ks i) e ∙ get_or-map (λ (s : Section). big_endian s.code) ss i (section_of_noughts [])

    lower_key : (i j : ℕ) → i < length ss → j < length ss → lower_section_code ss i j ≡ by_key keys i j
    lower_key i j h k =
        code_before (section_of ss i).code (section_of ss j).code (code_good i h) (code_good j k) ∙ sym (ap₂ ltb (key_at i) (key_at j))

    -- equal keys: neither code stands before the other
    level : (i j : ℕ) → i < length ss → j < length ss → entry keys i ≡ entry keys j → lower_section_code ss i j ≡ false
    level i j h k same = lower_key i j h k ∙ le-ltb (entry keys i) (entry keys j) (omega (arith, same))

  pub book_columns : {codes : List ℕ} {positions : List ℤ} {keys : List ℕ} → codes ≡ settlements_of ss → positions ≡ positions_of ss → keys ≡ keys_of ss → Columns ss codes positions keys
  book_columns c p e =
      record {
        codes_are = c;
        positions_are = p;
        keys_lower = lower_key e;
        keys_apart = λ i j h k same. (held_told b book).apart i j h k (level e i j h k same) (level e j i k h (sym same));
      }

  -- the limits: of settlement codes and positions
  pub code_within : {codes : List ℕ} → codes ≡ settlements_of ss → (i : ℕ) → i < length codes → entry codes i < 64
  code_within e i h = omega (arith, code_at ss e i, held_codes b book i (omega (arith, h, codes_long ss e)))

  pub position_within : {positions : List ℤ} → positions ≡ positions_of ss → (i : ℕ) → nat_abs (entry_ℤ positions i) ≤ 1_000_000
  position_within {positions} e i =
      ⊎_elim (λ (h : i < length ss). omega (arith, ap nat_abs (position_at ss e i), (listed_good b book i h).position))
      (λ (h : length ss ≤ i). omega (arith, ap nat_abs (get_d_past positions i (pos 0) (omega (arith, h, positions_long ss e)))))
      (below_or_not i (length ss))

  -- what fails by the marks as they stand (01, Expiry, 1.2)
  pub marks_fail : failing_with false b ≡ failing ss (filed_notices b)
  unfolding failing fails
  marks_fail = refl

  -- of the lots of failing sections
  pub failing_within : (i : ℕ) → entry (failing ss (filed_notices b)) i ≤ 1_000_000
  unfolding failing
  failing_within =
      listed_most (length ss) _ (λ (i : ℕ). 1_000_000)
      (λ i. omega (arith, under_within (fails ss (filed_notices b) i) (size (section_of ss i)), ap nat_abs (position_at ss refl i), position_within refl i))

  -- of sellers, elevators and lots of notices
  pub seller_within : {sellers : List ℕ} → sellers ≡ sellers_in (filed_notices b) → (k : ℕ) → k < length sellers → entry sellers k < b.held
  seller_within e k h = omega (arith, seller_at (filed_notices b) e k, (filed_good b book k (omega (arith, h, sellers_long (filed_notices b) e))).section)

  pub stand_within : {stands : List ℕ} → stands ≡ elevators_in (filed_notices b) → (k : ℕ) → k < length stands → entry stands k < 32
  stand_within e k h = omega (arith, stand_at (filed_notices b) e k, (filed_good b book k (omega (arith, h, stands_long (filed_notices b) e))).elevator)

  pub lots_within : {lots : List ℕ} → lots ≡ notice_lots_in (filed_notices b) → (k : ℕ) → entry lots k ≤ 1_000_000
  lots_within {lots} e k =
      ⊎_elim (λ (h : k < length (filed_notices b)). omega (arith, lots_at_lem (filed_notices b) e k, (filed_good b book k h).lots))
      (λ (h : length (filed_notices b) ≤ k). omega (arith, get_d_past lots k 0 (omega (arith, h, lots_long (filed_notices b) e))))
      (below_or_not k (length (filed_notices b)))
