-- What is drawn of the notices of a short section, one after the other in filing order (01, Expiry, 5.1).
use Rattle.numbers.proofs.Words.{ℕ, zero, suc, ◌+◌, ◌-◌, min, ◌≤◌, ◌<◌, arith, ◌≡◌, refl, sym, ap, subst, ◌∙◌, Bool, true, false, cond, List, [], ⊎_elim, eqb, ltb, length, take, take-suc, take-length, nat_abs, ltb-true, eqb-true, ◌and◌, counted, entry, listed, less, gathered, total, many}
use Rattle.rules.specs.declared.book.{Section.Section, Notice.Notice}
use Rattle.numbers.proofs.Tests.{both, below_or_not}
use Rattle.numbers.proofs.Sums.{naturals, total_last}
use Rattle.numbers.proofs.Ranges.{listed_at, listed_past, listed_under, less_at, sum_more}
use Rattle.numbers.proofs.Counts.{one, many_more, many_most}
use Rattle.rules.specs.Book.{position_of, section_of, notice_of, blank_notice}
use Rattle.rules.specs.Expiry.{is_short}
use Rattle.rules.specs.Expiry.Failing.{noticed}
use Rattle.rules.specs.Expiry.Drawing.{drawn}

-- the lots of one notice that count for a section
abbrev pub counts : ℕ → Notice → ℕ
counts i n = cond (eqb n.section i) (nat_abs n.lots.0) 0

-- no notice, and one notice more
pub noticed_none : (i : ℕ) → noticed [] i ≡ 0
unfolding noticed gathered
noticed_none i = refl

pub noticed_next : (ns : List Notice) (i k : ℕ) → k < length ns → noticed (take (suc k) ns) i ≡ noticed (take k ns) i + counts i (notice_of ns k)
unfolding noticed
noticed_next ns i k h = ap (λ (l : List Notice). noticed l i) (take-suc ns k blank_notice h) ∙ total_last ◌+◌ 0 naturals (counts i) (take k ns) (notice_of ns k)

module _ (ss : List Section) (ns : List Notice) where
  -- the section and the lots of a notice, and the lots of a section's notices filed before it
  abbrev of : ℕ → ℕ
  of k = (notice_of ns k).section

  abbrev lots : ℕ → ℕ
  lots k = nat_abs (notice_of ns k).lots.0

  abbrev short : ℕ → Bool
  short i = is_short (position_of (section_of ss i))

  abbrev before : ℕ → ℕ → ℕ
  before i k = noticed (take k ns) i

  before_all : (i : ℕ) → before i (length ns) ≡ noticed ns i
  before_all i = ap (λ (l : List Notice). noticed l i) (take-length ns)

  module _ (first : List ℕ) where
    -- what notice k has of the first lots of section i, were that its section
    abbrev has : ℕ → ℕ → ℕ
    has k i = min (lots k) (entry first i - before i k)

    -- that is drawn where the section is short, and nothing where there is no notice
    drawn_at_lem : (k : ℕ) → k < length ns → entry (drawn ss ns first) k ≡ cond (short (of k)) (has k (of k)) 0
    unfolding drawn
    drawn_at_lem k h = listed_at (length ns) _ k 0 h

    drawn_past : (k : ℕ) → length ns ≤ k → entry (drawn ss ns first) k ≡ 0
    unfolding drawn
    drawn_past k h = listed_past (length ns) _ k 0 h

    drawn_short : (i k : ℕ) → k < length ns → of k ≡ i → short i ≡ true → entry (drawn ss ns first) k ≡ has k i
    drawn_short i k h same = subst (λ (j : ℕ). short j ≡ true → entry (drawn ss ns first) k ≡ has k j) same (λ e. rw e at (drawn_at_lem k h))

    -- never more is drawn
    drawn_most : (k : ℕ) → entry (drawn ss ns first) k ≤ has k (of k)
    unfolding drawn
    drawn_most k = listed_under (length ns) (λ (j : ℕ). short (of j)) (λ (j : ℕ). has j (of j)) k

    -- the first m notices of a short section have its first lots as far as their own go
    drawn_first : (i : ℕ) → short i ≡ true → (m : ℕ) → m ≤ length ns
        → total (listed m (λ (k : ℕ). cond (eqb (of k) i) (entry (drawn ss ns first) k) 0)) ≡ min (before i m) (entry first i)
    unfolding counted gathered
    drawn_first i e zero h = omega (arith, noticed_none i)
    drawn_first i e (suc m) h =
        sum_more ◌+◌ 0 naturals m (λ (k : ℕ). cond (eqb (of k) i) (entry (drawn ss ns first) k) 0)
        ∙ ap (λ (x : ℕ). x + cond (eqb (of m) i) (entry (drawn ss ns first) m) 0) (drawn_first i e m (omega arith))
        ∙ go (eqb (of m) i) refl
      where
        go : (t : Bool) → eqb (of m) i ≡ t → min (before i m) (entry first i) + cond t (entry (drawn ss ns first) m) 0 ≡ min (before i (suc m)) (entry first i)
        go true mine = omega (arith, drawn_short i m h (eqb-true (of m) i mine) e, rw mine at (noticed_next ns i m h))
        go false other = omega (arith, rw other at (noticed_next ns i m h))

    -- all of them have all its first lots, where they reach that far
    pub drawn_section : (i : ℕ) → is_short (position_of (section_of ss i)) ≡ true → entry first i ≤ noticed ns i
        → total (listed (length ns) (λ (k : ℕ). cond (eqb (notice_of ns k).section i) (entry (drawn ss ns first) k) 0)) ≡ entry first i
    drawn_section i e reach = omega (arith, drawn_first i e (length ns) (omega arith), before_all i, reach)

    -- the notices of long and flat sections are ignored
    pub drawn_ignored : (k : ℕ) → is_short (position_of (section_of ss (notice_of ns k).section)) ≡ false → entry (drawn ss ns first) k ≡ 0
    drawn_ignored k e = ⊎_elim (λ (h : k < length ns). rw e at (drawn_at_lem k h)) (drawn_past k) (below_or_not k (length ns))

    pub drawn_of_short : (k : ℕ) → 0 < entry (drawn ss ns first) k → is_short (position_of (section_of ss (notice_of ns k).section)) ≡ true
    drawn_of_short k some = go (short (of k)) refl
      where
        go : (t : Bool) → short (of k) ≡ t → t ≡ true
        go true e = refl
        go false e = absurd (omega (arith, some, drawn_ignored k e))

  -- inside, the notices are drawn for the lots `near`; outside, for the rest of `kept`
  abbrev pub rest : List ℕ → List ℕ → List ℕ
  rest near kept = less (drawn ss ns kept) (drawn ss ns near)

  module _ (near kept : List ℕ) (ordered : (i : ℕ) → entry near i ≤ entry kept i) where
    drawn_more : (k : ℕ) → entry (drawn ss ns near) k ≤ entry (drawn ss ns kept) k
    drawn_more k = ⊎_elim (λ h. go h (short (of k)) refl) (λ h. omega (arith, drawn_past near k h)) (below_or_not k (length ns))
      where
        go : k < length ns → (t : Bool) → short (of k) ≡ t → entry (drawn ss ns near) k ≤ entry (drawn ss ns kept) k
        go h true e = omega (arith, drawn_short near (of k) k h refl e, drawn_short kept (of k) k h refl e, ordered (of k))
        go h false e = omega (arith, drawn_ignored near k e)

    -- the two together are what is drawn for all of them, and so within the notice's lots
    pub drawn_both : (k : ℕ) → entry (drawn ss ns near) k + entry (rest near kept) k ≡ entry (drawn ss ns kept) k
    drawn_both k = omega (arith, drawn_more k, less_at (drawn ss ns kept) (drawn ss ns near) k)

    pub drawn_within : (k : ℕ) → entry (drawn ss ns near) k + entry (rest near kept) k ≤ nat_abs (notice_of ns k).lots.0
    drawn_within k = omega (arith, drawn_both k, drawn_most kept k)

    -- a notice of a section that is drawn both inside and outside, as a test
    abbrev split : ℕ → ℕ → Bool
    split i k = eqb (of k) i and ltb 0 (entry (drawn ss ns near) k) and ltb 0 (entry (rest near kept) k)

    -- its lots begin before the inside lots end, and end after them
    split_there : (i k : ℕ) → k < length ns → split i k ≡ true → (before i k < entry near i) × (entry near i < before i (suc k))
    split_there i k h e =
        let its = both (eqb (of k) i) _ e in
        let twice = both (ltb 0 (entry (drawn ss ns near) k)) (ltb 0 (entry (rest near kept) k)) its.1 in
        let mine = eqb-true (of k) i its.0 in
        let inside = ltb-true 0 (entry (drawn ss ns near) k) twice.0 in
        let outside = ltb-true 0 (entry (rest near kept) k) twice.1 in
        let has_near = drawn_short near i k h mine (ap short (sym mine) ∙ drawn_of_short near k inside) in
        let most : entry (drawn ss ns kept) k ≤ lots k = omega (arith, drawn_most kept k) in
        (omega (arith, inside, has_near), omega (arith, outside, most, has_near, less_at (drawn ss ns kept) (drawn ss ns near) k, rw its.0 at (noticed_next ns i k h)))

    -- of the first m notices at most one, and that only where their lots go beyond the inside lots
    split_first : (i m : ℕ) → m ≤ length ns → many m (split i) ≤ min 1 (before i m - entry near i)
    split_first i zero h = omega (arith, many_most 0 (split i))
    split_first i (suc m) h = rw (many_more m (split i)) (go (split i m) refl (split_first i m (omega arith)))
      where
        go : (t : Bool) → split i m ≡ t → many m (split i) ≤ min 1 (before i m - entry near i) → many m (split i) + one t ≤ min 1 (before i (suc m) - entry near i)
        go true e few = omega (arith, few, split_there i m h e)
        go false e few = omega (arith, few, noticed_next ns i m h)

    -- at most one notice of a section is drawn both inside and outside
    pub one_split : (i : ℕ) → many (length ns) (λ (k : ℕ). eqb (notice_of ns k).section i and ltb 0 (entry (drawn ss ns near) k) and ltb 0 (entry (rest near kept) k)) ≤ 1
    one_split i = omega (arith, split_first i (length ns) (omega arith))
