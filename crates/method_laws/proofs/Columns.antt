-- What the columns of sections and of notices say of them.
use Rattle.numbers.proofs.Words.{ℕ, ◌+◌, ◌*◌, ◌≤◌, ◌<◌, arith, ◌≡◌, refl, sym, ap, ap₂, ◌∙◌, Bool, ◌||◌, List, [], length, length-map, take, take-length, get_or-map, eqb, ltb-false, ℤ, nat_abs, cond, ◌and◌, listed, entry, entry_ℤ, total}
use Rattle.rules.specs.declared.book.{Section.Section, Notice.Notice}
use Rattle.numbers.proofs.Bytes.{before_self, before_trans}
use Rattle.numbers.proofs.Orders.{ordered_same}
use Rattle.numbers.proofs.Sums.{naturals}
use Rattle.numbers.proofs.Ranges.{listed_known, listed_front, sum_same}
use Rattle.numbers.proofs.Tally.{tally, tally_length, tally_at, tally_within}
use Rattle.rules.specs.Book.{position_of, section_of, section_of_noughts, notice_of, blank_notice}
use Rattle.rules.specs.Expiry.{lower_section_code, earlier}
use Rattle.rules.specs.Expiry.Failing.{noticed}
use Rattle.rules.specs.Expiry.Passes.{sellers_in, elevators_in}
use Rattle.method_laws.specs.Columns.{Columns, settlements_of, positions_of, by_key, notice_lots_in}
use Rattle.method_laws.specs.Giving.{in_order}
use Rattle.method_laws.proofs.Shares.{Told}

-- what stands in a column is what its section has
module _ (ss : List Section) where
  pub code_at : {codes : List ℕ} → codes ≡ settlements_of ss → (i : ℕ) → entry codes i ≡ (section_of ss i).settlement
  code_at e i = ap (λ (cs : List ℕ). entry cs i) e ∙ get_or-map (λ (s : Section). s.settlement) ss i (section_of_noughts [])

  pub position_at : {positions : List ℤ} → positions ≡ positions_of ss → (i : ℕ) → entry_ℤ positions i ≡ position_of (section_of ss i)
  position_at e i = ap (λ (zs : List ℤ). entry_ℤ zs i) e ∙ get_or-map position_of ss i (section_of_noughts [])

  pub codes_long : {codes : List ℕ} → codes ≡ settlements_of ss → length codes ≡ length ss
  codes_long e = ap length e ∙ length-map ss (λ (s : Section). s.settlement)

  pub positions_long : {positions : List ℤ} → positions ≡ positions_of ss → length positions ≡ length ss
  positions_long e = ap length e ∙ length-map ss position_of

-- keys tell the sections apart, and order them as section codes do
module _ (ss : List Section) (codes : List ℕ) (positions : List ℤ) (keys : List ℕ) (columns : Columns ss codes positions keys) where
  pub told : Told ss
  told =
      record {
        self = λ i. before_self (section_of ss i).code;
        along = λ i j k. before_trans (section_of ss i).code (section_of ss j).code (section_of ss k).code;
        apart = λ i j h k p q.
            columns.keys_apart i j h k
            (omega (arith, ltb-false (entry keys i) (entry keys j) (sym (columns.keys_lower i j h k) ∙ p), ltb-false (entry keys j) (entry keys i) (sym (columns.keys_lower j i k h) ∙ q)));
      }

  pub order_by_keys : (sooner : ℕ → ℕ → Bool) (lots : List ℕ) → in_order sooner (by_key keys) lots (length ss) ≡ in_order sooner (lower_section_code ss) lots (length ss)
  unfolding in_order
  order_by_keys sooner lots =
      ordered_same (earlier sooner (by_key keys) lots) (earlier sooner (lower_section_code ss) lots) (length ss)
      (λ i j h k. ap (λ (t : Bool). sooner (entry lots i) (entry lots j) || eqb (entry lots i) (entry lots j) and t) (sym (columns.keys_lower i j h k)))

-- what stands in a column is what its notice has
module _ (ns : List Notice) where
  pub seller_at : {sellers : List ℕ} → sellers ≡ sellers_in ns → (k : ℕ) → entry sellers k ≡ (notice_of ns k).section
  seller_at e k = ap (λ (is : List ℕ). entry is k) e ∙ get_or-map (λ (n : Notice). n.section) ns k blank_notice

  pub stand_at : {stands : List ℕ} → stands ≡ elevators_in ns → (k : ℕ) → entry stands k ≡ (notice_of ns k).elevator
  stand_at e k = ap (λ (es : List ℕ). entry es k) e ∙ get_or-map (λ (n : Notice). n.elevator) ns k blank_notice

  pub lots_at_lem : {lots : List ℕ} → lots ≡ notice_lots_in ns → (k : ℕ) → entry lots k ≡ nat_abs (notice_of ns k).lots.0
  lots_at_lem e k = ap (λ (xs : List ℕ). entry xs k) e ∙ get_or-map (λ (n : Notice). nat_abs n.lots.0) ns k blank_notice

  pub sellers_long : {sellers : List ℕ} → sellers ≡ sellers_in ns → length sellers ≡ length ns
  sellers_long e = ap length e ∙ length-map ns (λ (n : Notice). n.section)

  pub stands_long : {stands : List ℕ} → stands ≡ elevators_in ns → length stands ≡ length ns
  stands_long e = ap length e ∙ length-map ns (λ (n : Notice). n.elevator)

  pub lots_long : {lots : List ℕ} → lots ≡ notice_lots_in ns → length lots ≡ length ns
  lots_long e = ap length e ∙ length-map ns (λ (n : Notice). nat_abs n.lots.0)

-- the lots of each section's notices among the first k, in a list of n sections
abbrev pub noticed_first : ℕ → List ℕ → List ℕ → ℕ → List ℕ
noticed_first n sellers lots = tally ◌+◌ 0 naturals (entry sellers) (entry lots) n

pub noticed_within : (n : ℕ) (sellers lots : List ℕ) (limit : ℕ) → ((k : ℕ) → entry lots k ≤ limit) → (k i : ℕ) → entry (noticed_first n sellers lots k) i ≤ limit * k
noticed_within n sellers lots = tally_within ◌+◌ 0 naturals (entry sellers) (entry lots) n (λ (x : ℕ). x) refl (λ x y. omega arith)

module _ (n : ℕ) (ns : List Notice) (sellers lots : List ℕ) (e : sellers ≡ sellers_in ns) (l : lots ≡ notice_lots_in ns) where
  pub noticed_at : (k : ℕ) → k ≤ length ns → (i : ℕ) → i < n → entry (noticed_first n sellers lots k) i ≡ noticed (take k ns) i
  unfolding noticed
  noticed_at k h i m =
      let counts : Notice → ℕ = λ (n : Notice). cond (eqb n.section i) (nat_abs n.lots.0) 0 in
      tally_at ◌+◌ 0 naturals (entry sellers) (entry lots) n k i m
      ∙ sum_same ◌+◌ 0 naturals k _ (λ (j : ℕ). counts (notice_of ns j))
      (λ j m. ap₂ (λ (seller own : ℕ). cond (eqb seller i) own 0) (seller_at ns e j) (lots_at_lem ns l j))
      ∙ ap total (listed_front counts ns blank_notice k h)

  -- all of them
  pub noticed_all : noticed_first n sellers lots (length sellers) ≡ listed n (noticed ns)
  noticed_all =
      listed_known n (noticed_first n sellers lots (length sellers)) 0 (noticed ns) (tally_length ◌+◌ 0 naturals (entry sellers) (entry lots) n (length sellers))
      (λ i h.
      ap (λ (k : ℕ). entry (noticed_first n sellers lots k) i) (sellers_long ns e)
      ∙ noticed_at (length ns) (omega arith) i h
      ∙ ap (λ (all : List Notice). noticed all i) (take-length ns))
