-- The lots of the lines taken out, added up by buyer and then by seller (02, a, 4).
use Rattle.numbers.proofs.Words.{ℕ, ◌+◌, ◌≤◌, ◌<◌, arith, ◌≡◌, refl, sym, ap, ap₂, subst, ◌∙◌, ⊎_elim, cond, List, map, map-map, eqb, length, length-replicate, length-take-le, take, replicate, get_or-take, counted, ◌and◌, listed, entry, total}
use Rattle.numbers.proofs.Entries.{noughts_known}
use Rattle.numbers.proofs.Ranges.{listed-length, listed_at, listed_past, listed_same, sum_same}
use Rattle.numbers.proofs.Sums.{naturals}
use Rattle.numbers.proofs.Tests.{below_or_not}
use Rattle.numbers.proofs.Under.{under_within, under_two, under_swapped}
use Rattle.rules.specs.Expiry.Passes.{Line}
use Rattle.method_laws.specs.Columns.{lots_at, Below, Small}
use Rattle.method_columns.proofs.Adding.{Added, added_length, added_within}
use Rattle.method_passes.specs.declared.register.{Register.Register}
use Rattle.method_passes.specs.Formed.{line_in, lines_in}
use Rattle.method_passes.proofs.Arrays.{Places}
use Rattle.method_removal.specs.Removed.{one_by, removed_by, lapsed_by, Known}

module _ {participants : List ℕ} {g : Register} (known : Known participants g) where
  abbrev n : ℕ
  n = length participants

  abbrev count : ℕ
  count = g.count

  -- what is gone of a line: not many lots
  abbrev gone : ℕ → ℕ
  gone k = cond (one_by participants (line_in g k)) (entry g.lots k) 0

  gone_small : Small (removed_by participants g)
  gone_small i =
      ⊎_elim
      (λ (h : i < count). omega (arith, listed_at count gone i 0 h, under_within (one_by participants (line_in g i)) (entry g.lots i), known.lots i h))
      (λ (h : count ≤ i). omega (arith, listed_past count gone i 0 h))
      (below_or_not i count)

  -- one side of the lines
  module _ (xs : List ℕ) (places : length xs ≡ 382) where
    pub side_length : length (take count xs) ≡ count
    side_length = length-take-le count xs (omega (arith, known.few, places))

    module _ {taken : List ℕ} (is : taken ≡ removed_by participants g) where
      -- what is asked to add up what is gone by this side
      pub side_asked : (sums : List ℕ) → ((k : ℕ) → k < count → entry xs k < n) → length sums ≡ n → ((i : ℕ) → entry sums i ≤ 382_000_000)
          → ((length (take count xs) ≤ 382) × (length taken ≡ length (take count xs)) × Below (length sums) (take count xs)) × (Small taken × ((i : ℕ) → entry sums i ≤ 382_000_000))
      side_asked sums below long within =
          let place : (i : ℕ) → i < length (take count xs) → i < count = λ i h. omega (arith, h, side_length) in (
            (
              omega (arith, side_length, known.few),
              ap length is ∙ listed-length count gone ∙ sym side_length,
              λ i h. omega (arith, below i (place i h), get_or-take count xs i 0 (place i h), long),
            ),
            (subst Small (sym is) gone_small, within),
          )

      -- and what it comes to
      side_lots : (side : Line → ℕ) → ((k : ℕ) → side (line_in g k) ≡ entry xs k) → (i : ℕ)
          → lots_at (take count xs) taken i ≡ total (map (λ (l : Line). cond (eqb (side l) i and one_by participants l) l.lots 0) (lines_in g))
      side_lots side same i =
          ap (λ (m : ℕ). total (listed m (λ (k : ℕ). cond (eqb (entry (take count xs) k) i) (entry taken k) 0))) side_length
          ∙ sum_same ◌+◌ 0 naturals count _ _
          (λ k h.
          let one = one_by participants (line_in g k) in
          let here = eqb (side (line_in g k)) i in
          ap₂ (λ (x own : ℕ). cond (eqb x i) own 0) (get_or-take count xs k 0 h ∙ sym (same k)) (ap (λ (lots : List ℕ). entry lots k) is ∙ listed_at count gone k 0 h)
          ∙ sym (under_two here one (entry g.lots k) ∙ under_swapped one here (entry g.lots k)))
          ∙ sym (ap total (map-map (λ (l : Line). cond (eqb (side l) i and one_by participants l) l.lots 0) (line_in g) (counted 0 count)))

  -- it is added to noughts by buyer, and to that by seller
  module _ (places : Places g) {noughts taken first : List ℕ} (none : noughts ≡ replicate n 0) (is : taken ≡ removed_by participants g)
      (by_buyer : first ≡ listed (length noughts) (λ (i : ℕ). entry noughts i + lots_at (take count g.buyers) taken i)) where
    noughts_length : length noughts ≡ n
    noughts_length = ap length none ∙ length-replicate n 0

    added : Added (take count g.buyers) taken noughts first (length (take count g.buyers))
    added = record { within = omega arith; entries = by_buyer }

    pub first_length : length first ≡ n
    first_length = added_length added ∙ noughts_length

    pub first_within : (i : ℕ) → entry first i ≤ 382_000_000
    first_within i =
        omega (arith, added_within added 0 (subst Small (sym is) gone_small) (λ e. omega (arith, noughts_known n none e)) i, side_length g.buyers places.buyers, known.few)

    bought : (i : ℕ) → i < n → entry first i ≡ total (map (λ (l : Line). cond (eqb l.buyer i and one_by participants l) l.lots 0) (lines_in g))
    bought i h =
        ap (λ (xs : List ℕ). entry xs i) by_buyer
        ∙ listed_at (length noughts) _ i 0 (omega (arith, h, noughts_length))
        ∙ omega (arith, noughts_known n none i, side_lots g.buyers places.buyers is (λ (l : Line). l.buyer) (λ k. refl) i)

    pub lapsed_all : {all : List ℕ} (selling : List ℕ) → all ≡ listed (length first) (λ (i : ℕ). entry first i + lots_at (take count selling) taken i) → selling ≡ g.sellers → all ≡ lapsed_by participants (lines_in g)
    lapsed_all selling by-seller sold =
        by-seller
        ∙ ap₂ (λ (m : ℕ) (sellers : List ℕ). listed m (λ (i : ℕ). entry first i + lots_at (take count sellers) taken i)) first_length sold
        ∙ listed_same n _ _ (λ i h. ap₂ ◌+◌ (bought i h) (side_lots g.sellers places.sellers is (λ (l : Line). l.seller) (λ k. refl) i))
