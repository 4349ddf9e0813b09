-- The lines of a register: each is of sections held, at an elevator, of some lots and of no more than a notice has.
use Rattle.numbers.proofs.Words.{ℕ, zero, suc, ◌-◌, ◌≤◌, ◌<◌, min, arith, ◌≡◌, refl, sym, ap, ◌∙◌, Bool, true, false, cond, ⊎_elim, List, [], ◌∷◌, map, flat_map, eqb, ltb, leb, length, get_or, set, length-set, length-map, get_or-map, lt-ltb, ltb-true, le-leb, leb-true, eqb-false, nat_abs, ◌and◌, every, listed, counted, entry, less}
use Rattle.rules.specs.declared.book.{Section.Section, Notice.Notice}
use Rattle.numbers.proofs.Tests.{both, together, below_or_not}
use Rattle.numbers.proofs.Lists.{every_at}
use Rattle.numbers.proofs.Changed.{every_append, every_set, every_read}
use Rattle.numbers.proofs.Passing.{every-passing}
use Rattle.numbers.proofs.Orders.{counted-every}
use Rattle.numbers.proofs.Entries.{entry_place, off_entry}
use Rattle.numbers.proofs.Ranges.{listed-length, listed_under, less_at, get_d_past}
use Rattle.rules.specs.Book.{elevators, settlement_codes, section_of, notice_of, blank_notice}
use Rattle.rules.specs.Expiry.{lower_section_code, Outside.outside, Outside.inside, Drawing.drawn}
use Rattle.rules.specs.Expiry.Passes.{Pair, Line, Pass, pair_of, with_lots, sellers_in, elevators_in, offers, fullest_buyer, fullest_elevator, fullest_pair, fullest_notice, stage_one, stage_two, pairs_of, lines_of, inside_pass, outside_pass}
use Rattle.rules.specs.Expiry.SamePerson.{kept_of}
use Rattle.rules.specs.Expiry.Call.{remaining, passes, lines, kept}
use Rattle.method_laws.proofs.Elevators.{elevators_length}
use Rattle.method_laws.proofs.Drawing.{drawn_within}

-- a line of two sections below a number, at an elevator, of one lot or more and of at most so many
pub record Within (sections most : ℕ) (l : Line) : Type 0 where
  pub buyer : l.buyer < sections
  pub elevator : l.elevator < elevators
  pub seller : l.seller < sections
  pub lots : l.lots ≤ most
  pub some : 0 < l.lots

-- the same as a test, and of a pair
abbrev line_known : ℕ → ℕ → Line → Bool
line_known sections most l = ltb l.buyer sections and ltb l.elevator elevators and ltb l.seller sections and leb l.lots most and ltb 0 l.lots

abbrev pair_known : ℕ → Pair → Bool
pair_known sections q = ltb q.buyer sections and ltb q.elevator elevators

-- every pair of stage one is of a buyer and of an elevator that have lots, and so a place (01, Expiry, 6.2)
pairs_known : (lower : ℕ → ℕ → Bool) (turns sections : ℕ) (buyers stocks : List ℕ) → length buyers ≡ sections → length stocks ≡ elevators → every (pair_known sections) (stage_one lower turns buyers stocks) ≡ true
unfolding stage_one every
pairs_known lower zero sections buyers stocks long long' = refl
pairs_known lower (suc turns) sections buyers stocks long long' =
    go (eqb amount 0) refl (pairs_known lower turns sections _ _ (length-set buyers b (entry buyers b - amount) ∙ long) (length-set stocks e (entry stocks e - amount) ∙ long'))
  where
    b : ℕ
    b = fullest_buyer lower buyers

    e : ℕ
    e = fullest_elevator stocks

    amount : ℕ
    amount = min (entry buyers b) (entry stocks e)

    rest : List Pair
    rest = stage_one lower turns (set buyers b (entry buyers b - amount)) (set stocks e (entry stocks e - amount))

    go : (t : Bool) → eqb amount 0 ≡ t → every (pair_known sections) rest ≡ true → every (pair_known sections) (elim t [ true ↦ [] | false ↦ record { buyer = b; elevator = e; lots = amount } ∷ rest ]) ≡ true
    go true none known = refl
    go false some known =
        let above = eqb-false amount 0 some in
        together
        (together (lt-ltb b sections (omega (arith, long, entry_place buyers b (omega (arith, above))))) (lt-ltb e elevators (omega (arith, long', entry_place stocks e (omega (arith, above))))))
        known

-- every line of stage two is of a pair and of a notice that have lots (01, Expiry, 6.3)
module _ (lower : ℕ → ℕ → Bool) (sellers stands : List ℕ) (sections most : ℕ) (sold : (k : ℕ) → k < length stands → entry sellers k < sections) where
  lines_known : (turns : ℕ) (ps : List Pair) (left : List ℕ) → every (pair_known sections) ps ≡ true → ((k : ℕ) → entry left k ≤ most) → every (line_known sections most) (stage_two lower sellers stands turns ps left) ≡ true
  unfolding stage_two every
  lines_known zero ps left known small = refl
  lines_known (suc turns) ps left known small = go (eqb amount 0) refl (lines_known turns _ _)
    where
      p : ℕ
      p = fullest_pair lower ps

      pair : Pair
      pair = pair_of ps p

      there : List ℕ
      there = offers stands left pair.elevator

      k : ℕ
      k = fullest_notice lower sellers stands left pair.elevator

      amount : ℕ
      amount = min pair.lots (entry there k)

      ps' : List Pair
      ps' = set ps p (with_lots pair (pair.lots - amount))

      left' : List ℕ
      left' = set left k (entry left k - amount)

      rest : List Line
      rest = stage_two lower sellers stands turns ps' left'

      within : amount ≤ entry left k
      within = omega (arith, listed_under (length stands) (λ (j : ℕ). eqb (entry stands j) pair.elevator) (entry left) k)

      pair_known_lem : (amount ≡ 0 → ⊥) → pair_known sections pair ≡ true
      pair_known_lem above =
          let lots : Pair → ℕ = λ (q : Pair). q.lots in
          let none : Pair = record { buyer = 0; elevator = 0; lots = 0 } in
          every_at (pair_known sections) ps p none known (omega (arith, length-map ps lots, entry_place (map lots ps) p (omega (arith, above, get_or-map lots ps p none))))

      go : (t : Bool) → eqb amount 0 ≡ t → (every (pair_known sections) ps' ≡ true → ((j : ℕ) → entry left' j ≤ most) → every (line_known sections most) rest ≡ true)
          → every (line_known sections most) (elim t [ true ↦ [] | false ↦ record { buyer = pair.buyer; elevator = pair.elevator; seller = entry sellers k; lots = amount } ∷ rest ]) ≡ true
      go true none later = refl
      go false some later =
          let above = eqb-false amount 0 some in
          let of_pair = both (ltb pair.buyer sections) (ltb pair.elevator elevators) (pair_known_lem above) in
          let place : k < length stands = omega (arith, listed-length (length stands) (λ (j : ℕ). cond (eqb (entry stands j) pair.elevator) (entry left j) 0), entry_place there k (omega (arith, above))) in
          together (together of_pair.0 (together of_pair.1 (together (lt-ltb (entry sellers k) sections (sold k place)) (together (le-leb amount most (omega (arith, within, small k))) (lt-ltb 0 amount (omega (arith, above)))))))
          (later (every_set (pair_known sections) ps p _ known (pair_known_lem above)) (λ j. omega (arith, off_entry left k amount within j, small j)))

-- every line of a list of passes is such a line where those of each pass are
every_flat : {A B : Type 0} (test : B → Bool) (f : A → List B) (xs : List A) → every (λ (x : A). every test (f x)) xs ≡ true → every test (flat_map f xs) ≡ true
unfolding flat_map every
every_flat test f [] e = refl
every_flat test f (x ∷ xs) e =
    let parts = both (every test (f x)) _ e in
    every_append test (f x) (flat_map f xs) parts.0 (every_flat test f xs parts.1)

module _ (ss : List Section) (ns : List Notice) (most : ℕ) (sections : (k : ℕ) → k < length ns → (notice_of ns k).section < length ss) (small : (k : ℕ) → k < length ns → nat_abs (notice_of ns k).lots.0 ≤ most) where
  abbrev known : Line → Bool
  known = line_known (length ss) most

  -- the lines of a pass with a place for each section, that draws no notice beyond its lots
  pass_known_lem : (pass : Pass) → length pass.buyers ≡ length ss → ((k : ℕ) → entry pass.drawn k ≤ nat_abs (notice_of ns k).lots.0) → every known (lines_of ss ns pass) ≡ true
  unfolding lines_of pairs_of
  pass_known_lem pass long within =
      lines_known (lower_section_code ss) (sellers_in ns) (elevators_in ns) (length ss) most
      (λ k h. let n : k < length ns = omega (arith, h, length-map ns (λ (n : Notice). n.elevator)) in omega (arith, get_or-map (λ (n : Notice). n.section) ns k blank_notice, sections k n))
      _ _ pass.drawn
      (pairs_known (lower_section_code ss) _ (length ss) pass.buyers _ long (elevators_length (elevators_in ns) pass.drawn))
      (λ k. ⊎_elim (λ (h : k < length ns). omega (arith, within k, small k h)) (λ (h : length ns ≤ k). omega (arith, within k, ap (λ (n : Notice). nat_abs n.lots.0) (get_d_past ns k blank_notice h))) (below_or_not k (length ns)))

  -- no notice is drawn beyond its lots, whatever it is drawn for (01, Expiry, 5.1)
  drawn_small : (first : List ℕ) (k : ℕ) → entry (drawn ss ns first) k ≤ nat_abs (notice_of ns k).lots.0
  drawn_small first k = omega (arith, drawn_within ss ns first first (λ i. omega arith) k)

  -- the passes of an expiry are such passes (01, Expiry, 6.1)
  abbrev pass_known : Pass → Bool
  pass_known pass = every known (lines_of ss ns pass)

  inside_known : (near : List ℕ) (c : ℕ) → pass_known (inside_pass ss ns near (drawn ss ns near) c) ≡ true
  unfolding inside_pass
  inside_known near c =
      let of_code : ℕ → Bool = λ (k : ℕ). eqb (section_of ss (notice_of ns k).section).settlement c in
      pass_known_lem (inside_pass ss ns near (drawn ss ns near) c) (listed-length (length ss) _)
      (λ k. omega (arith, listed_under (length ns) of_code (entry (drawn ss ns near)) k, drawn_small near k))

  outside_known : (far kept near : List ℕ) → pass_known (outside_pass ss far (less (drawn ss ns kept) (drawn ss ns near))) ≡ true
  unfolding outside_pass
  outside_known far kept near =
      pass_known_lem (outside_pass ss far (less (drawn ss ns kept) (drawn ss ns near))) (listed-length (length ss) _)
      (λ k. omega (arith, less_at (drawn ss ns kept) (drawn ss ns near) k, drawn_small kept k))

  all_known : every known (lines ss ns) ≡ true
  unfolding lines passes every
  all_known =
      let left = remaining ss ns in
      let near = inside ss left in
      let inside_at : ℕ → Pass = inside_pass ss ns near (drawn ss ns near) in
      every_flat known (lines_of ss ns) (passes ss ns left)
      (every_append pass_known (listed settlement_codes inside_at) _
      (sym (every_read inside_at pass_known (counted 0 settlement_codes)) ∙ counted-every (λ (c : ℕ). pass_known (inside_at c)) 0 settlement_codes (λ c l h. inside_known near c))
      (together (outside_known (outside ss left) left near) refl))

  -- each line formed, and each line kept (01, Expiry, 6.3; 02, a, 3)
  abbrev blank : Line
  blank = record { buyer = 0; elevator = 0; seller = 0; lots = 0 }

  within : (ls : List Line) → every known ls ≡ true → (i : ℕ) → i < length ls → Within (length ss) most (get_or ls i blank)
  within ls all i h =
      let l : Line = get_or ls i blank in
      let buyer = both (ltb l.buyer (length ss)) _ (every_at known ls i _ all h) in
      let elevator = both (ltb l.elevator elevators) _ buyer.1 in
      let seller = both (ltb l.seller (length ss)) _ elevator.1 in
      let lots = both (leb l.lots most) (ltb 0 l.lots) seller.1 in
      record { buyer = ltb-true _ _ buyer.0; elevator = ltb-true _ _ elevator.0; seller = ltb-true _ _ seller.0; lots = leb-true _ _ lots.0; some = ltb-true _ _ lots.1 }

  pub line_within : (i : ℕ) → i < length (lines ss ns) → Within (length ss) most (get_or (lines ss ns) i blank)
  line_within = within (lines ss ns) all_known

  pub kept_within : (i : ℕ) → i < length (kept ss ns) → Within (length ss) most (get_or (kept ss ns) i blank)
  unfolding kept kept_of
  kept_within = within (kept ss ns) (every-passing known _ (lines ss ns) all_known)
