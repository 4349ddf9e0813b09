-- The passes by columns are those of the sections and the notices that have these columns; the lines of some of them are no more than those of all.
use Rattle.numbers.proofs.Words.{ℕ, zero, suc, ◌+◌, ◌-◌, ◌*◌, ◌≤◌, ◌<◌, add-zero, arith, ◌≡◌, refl, sym, ap, ap₂, subst, ◌∙◌, Bool, cond, List, [], ◌∷◌, ◌++◌, map, flat_map, length, length-append, eqb, ℤ, ◌&&◌, add-one, counted, listed, entry, entry_ℤ, less}
use Rattle.numbers.proofs.Lists.{flat_map_last}
use Rattle.numbers.proofs.Ranges.{listed-length, listed_at, listed_same, listed_more, listed_under, less_at}
use Rattle.numbers.proofs.Under.{under_two}
use Rattle.rules.specs.declared.book.{Section.Section, Notice.Notice}
use Rattle.rules.specs.Book.{settlement_codes, section_of}
use Rattle.rules.specs.Expiry.{is_long, Outside.outside, Drawing.drawn}
use Rattle.rules.specs.Expiry.Passes.{Line, Pass, pairs_of, lines_of, inside_pass, outside_pass}
use Rattle.rules.specs.Expiry.Call.{passes, remaining, pairs, lines}
use Rattle.method_laws.specs.Columns.{Columns, by_key}
use Rattle.method_laws.proofs.Columns.{code_at, position_at, codes_long, seller_at, sellers_long, stands_long}
use Rattle.method_passes.specs.declared.{pass.Formed.Formed}
use Rattle.method_passes.specs.Formed.{lines_in, Sold}
use Rattle.method_passes.proofs.Arrays.{lines_count}
use Rattle.method_passes.proofs.Stages.{pass_known_lem}
use Rattle.method_passes.proofs.Passed.{pass_pairs_lem, pass_lines_lem}
use Rattle.method_register.specs.Passes.{long_lots, in_code, in_codes, pairs_by, lines_by, Read, Delivers, Expiring}

-- the lists that n entries and one more stand for
module _ {A B : Type 0} (g : A → List B) (f : ℕ → A) where
  pub flat_next : (n : ℕ) → flat_map g (listed (n + 1) f) ≡ flat_map g (listed n f) ++ g (f n)
  flat_next n = ap (λ (m : ℕ). flat_map g (listed m f)) (add-one n) ∙ ap (flat_map g) (listed_more n f) ∙ flat_map_last g (listed n f) (f n)

  pub flat_next_length : (n : ℕ) → length (flat_map g (listed (n + 1) f)) ≡ length (flat_map g (listed n f)) + length (g (f n))
  flat_next_length n = ap length (flat_next n) ∙ length-append (flat_map g (listed n f)) (g (f n))

  -- are no more than those of more entries
  pub flat_within : (n more : ℕ) → length (flat_map g (listed n f)) ≤ length (flat_map g (listed (n + more) f))
  flat_within n zero = omega (arith, ap (λ (m : ℕ). length (flat_map g (listed m f))) (add-zero n))
  flat_within n (suc more) =
      let next : n + more + 1 ≡ n + suc more = omega arith in
      omega (arith, flat_within n more, flat_next_length (n + more), ap (λ (m : ℕ). length (flat_map g (listed m f))) next)

-- of equal lists at each entry
pub flat_same : {A B C : Type 0} (g : A → List C) (h : B → List C) (f : ℕ → A) (k : ℕ → B) → ((i : ℕ) → g (f i) ≡ h (k i)) → (is : List ℕ) → flat_map g (map f is) ≡ flat_map h (map k is)
unfolding flat_map
flat_same g h f k e [] = refl
flat_same g h f k e (i ∷ is) = ap₂ (λ (xs ys : List _). xs ++ ys) (e i) (flat_same g h f k e is)

-- what stays inside, what goes outside, and what is drawn of the notices for them
pub record Split (ss : List Section) (ns : List Notice) (kept near far inside beyond : List ℕ) : Type 0 where
  pub far_is : far ≡ outside ss kept
  pub near_is : near ≡ less kept far
  pub inside_is : inside ≡ drawn ss ns near
  pub beyond_is : beyond ≡ less (drawn ss ns kept) inside
  pub near_long : length near ≡ length ss
  pub far_long : length far ≡ length ss
  pub inside_long : length inside ≡ length ns

abbrev pub outside_of : List ℤ → List ℕ → List ℕ → Pass
outside_of positions far drawn = record { buyers = long_lots positions far; drawn = drawn }

module _ {ss : List Section} {ns : List Notice} {codes : List ℕ} {positions : List ℤ} {keys sellers stands lots kept near far inside beyond : List ℕ}
    (d : Delivers ss ns codes positions keys sellers stands lots kept) (s : Split ss ns kept near far inside beyond) where
  abbrev columns : Columns ss codes positions keys
  columns = d.columns

  abbrev buyers : List ℕ
  buyers = long_lots positions near

  long_near : length buyers ≡ length ss
  long_near = listed-length (length near) _ ∙ s.near_long

  -- an inside pass
  bought : (c : ℕ) → (in_code codes sellers buyers inside c).buyers ≡ (inside_pass ss ns near inside c).buyers
  unfolding inside_pass
  bought c =
      ap (λ (m : ℕ). listed m (λ (i : ℕ). cond (eqb (entry codes i) c) (entry buyers i) 0)) long_near
      ∙ listed_same (length ss) _ _
      (λ i h.
      ap (λ (n : ℕ). cond (eqb (entry codes i) c) n 0) (listed_at (length near) _ i 0 (omega (arith, h, s.near_long)))
      ∙ sym (under_two (is_long (entry_ℤ positions i)) (eqb (entry codes i) c) (entry near i))
      ∙ ap₂ (λ (z : ℤ) (m : ℕ). cond (is_long z && eqb m c) (entry near i) 0) (position_at ss columns.positions_are i) (code_at ss columns.codes_are i))

  sold : (c : ℕ) → (in_code codes sellers buyers inside c).drawn ≡ (inside_pass ss ns near inside c).drawn
  unfolding inside_pass
  sold c =
      ap (λ (m : ℕ). listed m (λ (k : ℕ). cond (eqb (entry codes (entry sellers k)) c) (entry inside k) 0)) s.inside_long
      ∙ listed_same (length ns) _ _
      (λ k h.
      ap (λ (m : ℕ). cond (eqb m c) (entry inside k) 0) (code_at ss columns.codes_are (entry sellers k) ∙ ap (λ (i : ℕ). (section_of ss i).settlement) (seller_at ns d.filed.sellers_are k)))

  made : List ℕ → List ℕ → Pass
  made bs xs = record { buyers = bs; drawn = xs }

  inside_same : (c : ℕ) → in_code codes sellers buyers inside c ≡ inside_pass ss ns near inside c
  unfolding made inside_pass
  inside_same c = ap₂ made (bought c) (sold c)

  -- the outside pass
  outside_same : outside_of positions far beyond ≡ outside_pass ss far beyond
  unfolding made outside_pass
  outside_same =
      ap (λ (bs : List ℕ). made bs beyond)
      (ap (λ (m : ℕ). listed m (λ (i : ℕ). cond (is_long (entry_ℤ positions i)) (entry far i) 0)) s.far_long
      ∙ listed_same (length ss) _ _ (λ i h. ap (λ (z : ℤ). cond (is_long z) (entry far i) 0) (position_at ss columns.positions_are i)))

  -- all of them
  passes_are : listed settlement_codes (inside_pass ss ns near inside) ++ (outside_pass ss far beyond ∷ []) ≡ passes ss ns (remaining ss ns)
  unfolding passes
  passes_are =
      let near_is = s.near_is ∙ ap (less kept) s.far_is in
      let inside_is = s.inside_is ∙ ap (drawn ss ns) near_is in
      ap₂ (λ (ps : List Pass) (p : Pass). ps ++ (p ∷ []))
      (ap₂ (λ (lots taken : List ℕ). listed settlement_codes (inside_pass ss ns lots taken)) near_is inside_is)
      (ap₂ (outside_pass ss) s.far_is (s.beyond_is ∙ ap (less (drawn ss ns kept)) inside_is))
      ∙ ap (passes ss ns) d.kept_is

  -- what all of them form, where each forms the same by its columns
  module _ {B : Type 0} (by of : Pass → List B) (same : (p : Pass) → length p.buyers ≡ length ss → by p ≡ of p) where
    formed : flat_map by (in_codes codes sellers buyers inside) ++ by (outside_of positions far beyond) ≡ flat_map of (passes ss ns (remaining ss ns))
    formed =
        ap₂ (λ (xs ys : List B). xs ++ ys)
        (flat_same by of (in_code codes sellers buyers inside) (inside_pass ss ns near inside)
        (λ c. same (in_code codes sellers buyers inside c) (listed-length (length buyers) _ ∙ long_near) ∙ ap of (inside_same c)) (counted 0 settlement_codes))
        (same (outside_of positions far beyond) (listed-length (length far) _ ∙ s.far_long) ∙ ap of outside_same)
        ∙ sym (flat_map_last of (listed settlement_codes (inside_pass ss ns near inside)) (outside_pass ss far beyond))
        ∙ ap (flat_map of) passes_are

  pub all_pairs : flat_map (pairs_by keys stands) (in_codes codes sellers buyers inside) ++ pairs_by keys stands (outside_of positions far beyond) ≡ pairs ss ns
  unfolding pairs
  all_pairs = formed (pairs_by keys stands) (pairs_of ss ns) (pass_pairs_lem columns d.filed)

  pub all_lines : ((k : ℕ) → k < length stands → entry sellers k < length ss)
      → flat_map (lines_by keys sellers stands) (in_codes codes sellers buyers inside) ++ lines_by keys sellers stands (outside_of positions far beyond) ≡ lines ss ns
  unfolding lines
  all_lines known = formed (lines_by keys sellers stands) (lines_of ss ns) (λ p long. pass_lines_lem columns d.filed p long known)

-- of what is drawn, that under a test
pub sold_less : {sellers stands drawn : List ℕ} {sections : ℕ} → Sold sellers stands drawn sections → (test : ℕ → Bool) → Sold sellers stands (listed (length drawn) (λ (k : ℕ). cond (test k) (entry drawn k) 0)) sections
sold_less {drawn = drawn} sold test =
    let notices = sold.notices in
    record {
      notices =
          record {
            few = notices.few;
            long = listed-length (length drawn) _ ∙ notices.long;
            standing = notices.standing;
            small = λ k. omega (arith, listed_under (length drawn) test (entry drawn) k, notices.small k);
          };
      long = sold.long;
      seller = sold.seller;
    }

-- what the inside passes of the first c codes have formed
pub record Ran (codes keys buyers sellers stands drawn : List ℕ) (formed : Formed) (c : ℕ) : Type 0 where
  pub within : c ≤ 64
  pub lines : lines_in formed.register ≡ flat_map (lines_by keys sellers stands) (listed c (in_code codes sellers buyers drawn))
  pub pairs : formed.pairs ≡ length (flat_map (pairs_by keys stands) (listed c (in_code codes sellers buyers drawn)))
  pub few : formed.pairs ≤ 160 * c

module _ {codes keys buyers sellers stands drawn : List ℕ} {formed : Formed} where
  pub ran_none : lines_in formed.register ≡ [] → formed.pairs ≡ 0 → Ran codes keys buyers sellers stands drawn formed 0
  unfolding counted flat_map
  ran_none none zero-pairs = record { within = omega arith; lines = none; pairs = zero-pairs; few = omega (arith, zero-pairs) }

  module _ {c : ℕ} (ran : Ran codes keys buyers sellers stands drawn formed c) where
    abbrev pass : Pass
    pass = in_code codes sellers buyers drawn c

    -- the lines of one pass more find room
    pub ran_fits : c < 64 → length (flat_map (lines_by keys sellers stands) (in_codes codes sellers buyers drawn)) ≤ 382 → formed.register.count + length (lines_by keys sellers stands pass) ≤ 382
    ran_fits below room =
        let each = in_code codes sellers buyers drawn in
        let form = lines_by keys sellers stands in
        let all : c + 1 + (64 - (c + 1)) ≡ 64 = omega (arith, below) in
        omega (
          arith,
          room,
          lines_count formed.register,
          ap length ran.lines,
          flat_next_length form each c,
          flat_within form each (c + 1) (64 - (c + 1)),
          ap (λ (m : ℕ). length (flat_map form (listed m each))) all,
        )

    -- one pass more
    pub ran_next : Read codes keys buyers sellers stands drawn → c < 64 → {next : Formed} → lines_in next.register ≡ lines_in formed.register ++ lines_by keys sellers stands pass
        → next.pairs ≡ formed.pairs + length (pairs_by keys stands pass) → Ran codes keys buyers sellers stands drawn next (c + 1)
    ran_next read below lines pairs =
        let each = in_code codes sellers buyers drawn in
        let long : length pass.buyers ≡ length buyers = listed-length (length buyers) _ in
        let few = (pass_known_lem (by_key keys) stands pass.buyers pass.drawn (omega (arith, long, read.buyers_long, read.few))).few in
        record {
          within = omega (arith, below);
          lines = lines ∙ ap (λ (ls : List Line). ls ++ lines_by keys sellers stands pass) ran.lines ∙ sym (flat_next (lines_by keys sellers stands) each c);
          pairs = omega (arith, pairs, ran.pairs, flat_next_length (pairs_by keys stands) each c);
          few = omega (arith, pairs, ran.few, few);
        }

    -- after the last code
    pub ran_end : 64 ≤ c → Ran codes keys buyers sellers stands drawn formed 64
    ran_end past = subst (Ran codes keys buyers sellers stands drawn formed) (omega (arith, past, ran.within)) ran

-- what the columns of a book that expires say of one another
module _ {codes : List ℕ} {positions : List ℤ} {keys sellers stands lots kept : List ℕ} (e : Expiring codes positions keys sellers stands lots kept) where
  all_stand : length stands ≡ length sellers
  all_stand = stands_long e.ns e.delivers.filed.stands_are ∙ sym (sellers_long e.ns e.delivers.filed.sellers_are)

  pub all_kept : {ss : List Section} → Columns ss codes positions keys → length kept ≡ length ss
  all_kept {ss} columns = sym e.held.codes_long ∙ codes_long ss columns.codes_are

  pub sold_of : {xs : List ℕ} → length xs ≡ length sellers → ((k : ℕ) → entry xs k ≤ 1_000_000) → Sold sellers stands xs (length keys)
  sold_of long small =
      record {
        notices = record { few = omega (arith, all_stand, e.noticed.few); long = long ∙ sym all_stand; standing = e.standing; small = small };
        long = sym all_stand;
        seller = λ k h. omega (arith, e.held.keys_long, e.noticed.seller k (omega (arith, h, all_stand)));
      }

  pub read_of : {ss : List Section} {ns : List Notice} {near far inside beyond : List ℕ} → Split ss ns kept near far inside beyond → Sold sellers stands inside (length keys) → Read codes keys (long_lots positions near) sellers stands inside
  read_of {near = near} {far = far} s sold =
      let held = e.held in
      let long : length near ≡ length kept = ap length s.near_is ∙ listed-length (length kept) _ in
      record {
        few = omega (arith, held.few, held.keys_long);
        codes_long = held.codes_long ∙ sym held.keys_long;
        buyers_long = listed-length (length near) _ ∙ long ∙ sym held.keys_long;
        buyers_small = λ i.
            omega (
              arith,
              listed_under (length near) (λ (j : ℕ). is_long (entry_ℤ positions j)) (entry near) i,
              ap (λ (xs : List ℕ). entry xs i) s.near_is,
              less_at kept far i,
              e.small i,
            );
        sold = sold;
      }

  pub lines_of_lem : {ss : List Section} {ns : List Notice} {near far inside beyond : List ℕ} → Delivers ss ns codes positions keys sellers stands lots kept → Split ss ns kept near far inside beyond
      → flat_map (lines_by keys sellers stands) (in_codes codes sellers (long_lots positions near) inside) ++ lines_by keys sellers stands (outside_of positions far beyond) ≡ lines ss ns
  lines_of_lem d s = all_lines d s (λ k h. omega (arith, all_kept d.columns, e.noticed.seller k (omega (arith, h, all_stand))))

  -- all lines find room
  pub room : {near far inside beyond : List ℕ} → Split e.ss e.ns kept near far inside beyond
      → length (flat_map (lines_by keys sellers stands) (in_codes codes sellers (long_lots positions near) inside)) + length (lines_by keys sellers stands (outside_of positions far beyond)) ≤ 382
  room {near} {far} {inside} {beyond} s =
      let before = flat_map (lines_by keys sellers stands) (in_codes codes sellers (long_lots positions near) inside) in
      omega (arith, e.few, ap length (lines_of_lem e.delivers s), length-append before (lines_by keys sellers stands (outside_of positions far beyond)))
