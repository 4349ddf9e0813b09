-- Pairs and lines in arrays: how many there are, which is at a place, one more, and a pair with lots left.
use Rattle.numbers.proofs.Words.{ℕ, ◌+◌, ◌≤◌, ◌<◌, arith, ◌≡◌, refl, sym, ap, ◌∙◌, List, [], ◌∷◌, ◌++◌, map, length, set, length-append, length-map, length-set, get_or-map, get_or-set_same, get_or-set_other, map-set_same, entry}
use Rattle.numbers.proofs.Ranges.{listed-length, listed_at, listed_same, listed_next, listed-set}
use Rattle.rules.specs.Expiry.Passes.{Pair, pair_of, with_lots}
use Rattle.method_passes.specs.declared.{pairs.Pairs.Pairs, register.Register.Register}
use Rattle.method_passes.specs.Formed.{pairs_in, pair_left, line_in, lines_in, Known}

abbrev no_pair : Pair
no_pair = record { buyer = 0; elevator = 0; lots = 0 }

module _ (ps : Pairs) where
  abbrev pair_in : ℕ → Pair
  pair_in k = record { buyer = entry ps.buyers k; elevator = entry ps.elevators k; lots = entry ps.lots k }

  pub pairs_count : length (pairs_in ps) ≡ ps.count
  pairs_count = listed-length ps.count pair_in

  pub pair_at : (k : ℕ) → k < ps.count → pair_of (pairs_in ps) k ≡ record { buyer = entry ps.buyers k; elevator = entry ps.elevators k; lots = entry ps.lots k }
  pair_at k h = listed_at ps.count pair_in k no_pair h

  -- their lots
  abbrev pub lots_in : List ℕ
  lots_in = map (λ (q : Pair). q.lots) (pairs_in ps)

  pub lots_length : length lots_in ≡ ps.count
  lots_length = length-map (pairs_in ps) _ ∙ pairs_count

  pub lots_at_lem : (k : ℕ) → k < ps.count → entry lots_in k ≡ entry ps.lots k
  lots_at_lem k h = get_or-map (λ (q : Pair). q.lots) (pairs_in ps) k no_pair ∙ ap (λ (q : Pair). q.lots) (pair_at k h)

  pub known_buyer : (sections : ℕ) → Known (pairs_in ps) sections → (k : ℕ) → k < ps.count → entry ps.buyers k < sections
  known_buyer sections known k h = omega (arith, ap (λ (q : Pair). q.buyer) (pair_at k h), known.buyer k (omega (arith, h, pairs_count)))

  -- one pair more is written
  pub pairs_more : (buyer elevator lots : ℕ) → ps.count < 160 → length ps.buyers ≡ 160 → length ps.elevators ≡ 160 → length ps.lots ≡ 160
      → pairs_in (record { buyers = set ps.buyers ps.count buyer; elevators = set ps.elevators ps.count elevator; lots = set ps.lots ps.count lots; count = ps.count + 1 })
      ≡ pairs_in ps ++ (record { buyer = buyer; elevator = elevator; lots = lots } ∷ [])
  pairs_more buyer elevator lots room e e' e'' =
      let n = ps.count in
      listed_next n pair_in _ _
      (λ i l.
      let other : i ≡ n → ⊥ = λ e. absurd (omega (arith, l, e)) in
      rw (get_or-set_other ps.buyers n i buyer 0 other, get_or-set_other ps.elevators n i elevator 0 other, get_or-set_other ps.lots n i lots 0 other))
      (rw (get_or-set_same ps.buyers n buyer 0 (omega (arith, room, e)), get_or-set_same ps.elevators n elevator 0 (omega (arith, room, e')), get_or-set_same ps.lots n lots 0 (omega (arith, room, e''))))

  -- a pair's lots are written anew
  pub pairs_less : (p left : ℕ) → p < ps.count → ps.count ≤ 160 → length ps.lots ≡ 160
      → pairs_in (record { buyers = ps.buyers; elevators = ps.elevators; lots = set ps.lots p left; count = ps.count }) ≡ pair_left (pairs_in ps) p left
  pairs_less p left below few e =
      sym
      (ap (λ (q : Pair). set (pairs_in ps) p (with_lots q left)) (pair_at p below)
      ∙ listed-set ps.count pair_in _ _ p below (λ i l other. rw (get_or-set_other ps.lots p i left 0 other)) (rw (get_or-set_same ps.lots p left 0 (omega (arith, below, few, e)))))

-- so there is one more
pub one_more_pair : (ps qs : Pairs) (q : Pair) → pairs_in qs ≡ pairs_in ps ++ (q ∷ []) → qs.count ≡ ps.count + 1
one_more_pair ps qs q more = sym (pairs_count qs) ∙ ap length more ∙ length-append (pairs_in ps) (q ∷ []) ∙ ap (λ (n : ℕ). n + 1) (pairs_count ps)

-- the pairs with lots left are of the same sections
module _ (ps : List Pair) (p left : ℕ) where
  pub left_buyer : (k : ℕ) → (pair_of (pair_left ps p left) k).buyer ≡ (pair_of ps k).buyer
  left_buyer k =
      let buyer : Pair → ℕ = λ (q : Pair). q.buyer in
      let new = with_lots (pair_of ps p) left in
      sym (get_or-map buyer (set ps p new) k no_pair) ∙ ap (λ (bs : List ℕ). entry bs k) (map-set_same buyer ps p new no_pair refl) ∙ get_or-map buyer ps k no_pair

  pub left_length : length (pair_left ps p left) ≡ length ps
  left_length = length-set ps p (with_lots (pair_of ps p) left)

  pub known_left : (sections : ℕ) → Known ps sections → Known (pair_left ps p left) sections
  known_left sections known =
      record { few = omega (arith, left_length, known.few); buyer = λ k h. omega (arith, left_buyer k, known.buyer k (omega (arith, h, left_length))) }

pub lines_count : (g : Register) → length (lines_in g) ≡ g.count
lines_count g = listed-length g.count (line_in g)

-- a register has its places
pub record Places (g : Register) : Type 0 where
  pub buyers : length g.buyers ≡ 382
  pub elevators : length g.elevators ≡ 382
  pub sellers : length g.sellers ≡ 382
  pub lots : length g.lots ≡ 382

-- a line is written past the last one: it is one line more where it is counted, and none where it is not
module _ (g : Register) (buyer elevator seller lots : ℕ) where
  abbrev pub written : ℕ → Register
  written count = record { buyers = set g.buyers g.count buyer; elevators = set g.elevators g.count elevator; sellers = set g.sellers g.count seller; lots = set g.lots g.count lots; count = count }

  before_it : (count i : ℕ) → i < g.count → line_in (written count) i ≡ line_in g i
  before_it count i l =
      let n = g.count in
      let other : i ≡ n → ⊥ = λ e. absurd (omega (arith, l, e)) in
      rw (get_or-set_other g.buyers n i buyer 0 other, get_or-set_other g.elevators n i elevator 0 other, get_or-set_other g.sellers n i seller 0 other, get_or-set_other g.lots n i lots 0 other)

  pub lines_more : g.count < 382 → Places g → lines_in (written (g.count + 1)) ≡ lines_in g ++ (record { buyer = buyer; elevator = elevator; seller = seller; lots = lots } ∷ [])
  lines_more room places =
      let n = g.count in
      listed_next n (line_in g) _ _ (before_it (n + 1))
      (rw (
        get_or-set_same g.buyers n buyer 0 (omega (arith, room, places.buyers)),
        get_or-set_same g.elevators n elevator 0 (omega (arith, room, places.elevators)),
        get_or-set_same g.sellers n seller 0 (omega (arith, room, places.sellers)),
        get_or-set_same g.lots n lots 0 (omega (arith, room, places.lots)),
      ))

  pub lines_still : lines_in (written g.count) ≡ lines_in g
  lines_still = listed_same g.count _ _ (before_it g.count)
