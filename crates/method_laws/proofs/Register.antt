-- All passes: the register's lots by buyer and by notice.
use Rattle.numbers.proofs.Words.{ℕ, ◌+◌, ◌≤◌, ◌<◌, arith, ◌≡◌, refl, sym, ap, ap₂, ◌∙◌, Bool, true, false, cond, ◌||◌, or-true, List, [], ◌∷◌, ◌++◌, flat_map, eqb, length, length-append, ℤ, listed, entry, gathered, total}
use Rattle.rules.specs.declared.book.{Section.Section, Notice.Notice}
use Rattle.numbers.proofs.Sums.{naturals, total_joined, total-map, total_within}
use Rattle.numbers.proofs.Ranges.{listed_at, sum_same, sum_both, sum_one, sum_classes, measured_last}
use Rattle.numbers.proofs.Under.{under_follows, under_sum, under_two, under_swapped, under_either}
use Rattle.rules.specs.Book.{settlement_codes, position_of, section_of, notice_of}
use Rattle.rules.specs.Expiry.{is_long, is_short}
use Rattle.rules.specs.Expiry.Passes.{Line, Pass, lines_of, inside_pass, outside_pass}
use Rattle.method_laws.proofs.StageTwo.{line_lots}
use Rattle.method_laws.proofs.Formed.{Formed}

-- the lots of lines that pass one of two tests
module _ (a b : Line → Bool) (ls : List Line) where
  pub record Either : Type 0 where
    pub left : line_lots a ls ≤ line_lots (λ (l : Line). a l || b l) ls
    pub right : line_lots b ls ≤ line_lots (λ (l : Line). a l || b l) ls
    pub most : line_lots (λ (l : Line). a l || b l) ls ≤ line_lots a ls + line_lots b ls

  pub either_lots : Either
  either_lots =
      let read : (Line → Bool) → Line → ℕ = λ (test : Line → Bool) (l : Line). cond (test l) l.lots 0 in
      record {
        left = total_within _ _ (λ l. under_follows (a l) (a l || b l) l.lots (λ e. simp e)) ls;
        right = total_within _ _ (λ l. under_follows (b l) (a l || b l) l.lots (λ e. rw e (or-true (a l)))) ls;
        most = omega (
          arith,
          total_within (λ (l : Line). cond (a l || b l) l.lots 0) (λ (l : Line). read a l + read b l) (λ l. under_either (a l) (b l) l.lots) ls,
          total-map ◌+◌ 0 naturals (read a) (read b) ls,
        );
      }

lots_append : (test : Line → Bool) (xs ys : List Line) → line_lots test (xs ++ ys) ≡ line_lots test xs + line_lots test ys
lots_append test xs ys = total_joined ◌+◌ 0 naturals (λ (l : Line). cond (test l) l.lots 0) xs ys

module _ (ss : List Section) (ns : List Notice) (near far inside outside : List ℕ) where
  -- the passes, and all their lines
  abbrev pub inside_at : ℕ → Pass
  inside_at = inside_pass ss ns near inside

  abbrev pub outside_all : Pass
  outside_all = outside_pass ss far outside

  abbrev pub all_lines : List Line
  all_lines = flat_map (lines_of ss ns) (listed settlement_codes inside_at ++ (outside_all ∷ []))

  -- what is drawn of a section's notices, inside and outside
  abbrev pub drawn_for : ℕ → ℕ
  drawn_for i = total (listed (length ns) (λ (k : ℕ). cond (eqb (notice_of ns k).section i) (entry inside k + entry outside k) 0))

  -- their lots and their number, pass by pass
  pub all_lots : (test : Line → Bool) → line_lots test all_lines ≡ total (listed settlement_codes (λ (c : ℕ). line_lots test (lines_of ss ns (inside_at c)))) + line_lots test (lines_of ss ns outside_all)
  unfolding gathered
  all_lots test = measured_last (line_lots test) refl (lots_append test) (lines_of ss ns) settlement_codes inside_at outside_all

  pub all_length : length all_lines ≡ total (listed settlement_codes (λ (c : ℕ). length (lines_of ss ns (inside_at c)))) + length (lines_of ss ns outside_all)
  all_length = measured_last length refl length-append (lines_of ss ns) settlement_codes inside_at outside_all

  module _ (codes : (i : ℕ) → i < length ss → (section_of ss i).settlement < settlement_codes) (sections : (k : ℕ) → k < length ns → (notice_of ns k).section < length ss)
      (formed_inside : (c : ℕ) → c < settlement_codes → Formed ss ns (inside_at c)) (formed_outside : Formed ss ns outside_all) where
    -- a long section buys its inside and outside lots
    pub buyer_lots : (b : ℕ) → b < length ss → line_lots (λ (l : Line). eqb l.buyer b) all_lines ≡ cond (is_long (position_of (section_of ss b))) (entry near b + entry far b) 0
    unfolding inside_pass outside_pass
    buyer_lots b h =
        let long = is_long (position_of (section_of ss b)) in
        let code = (section_of ss b).settlement in
        all_lots (λ (l : Line). eqb l.buyer b)
        ∙ ap₂ ◌+◌
        (sum_same ◌+◌ 0 naturals settlement_codes _ _ (λ c l. (formed_inside c l).by_buyer b ∙ listed_at (length ss) _ b 0 h ∙ under_two long (eqb code c) (entry near b))
        ∙ sum_one ◌+◌ 0 naturals settlement_codes code (cond long (entry near b) 0) (codes b h))
        (formed_outside.by_buyer b ∙ listed_at (length ss) _ b 0 h)
        ∙ under_sum long (entry near b) (entry far b) _ refl

    -- a notice sells what is drawn of it, inside and outside
    pub notice_lots : (test : ℕ → ℕ → Bool) → line_lots (λ (l : Line). test l.seller l.elevator) all_lines
        ≡ total (listed (length ns) (λ (k : ℕ). cond (test (notice_of ns k).section (notice_of ns k).elevator) (entry inside k + entry outside k) 0))
    unfolding inside_pass outside_pass
    notice_lots test =
        let passes : ℕ → Bool = λ (k : ℕ). test (notice_of ns k).section (notice_of ns k).elevator in
        let code : ℕ → ℕ = λ (k : ℕ). (section_of ss (notice_of ns k).section).settlement in
        let of_inside : ℕ → ℕ = λ (k : ℕ). cond (passes k) (entry inside k) 0 in
        let of_outside : ℕ → ℕ = λ (k : ℕ). cond (passes k) (entry outside k) 0 in
        all_lots (λ (l : Line). test l.seller l.elevator)
        ∙ ap₂ ◌+◌
        (sum_same ◌+◌ 0 naturals settlement_codes _ _
        (λ c l.
        (formed_inside c l).by_notice test
        ∙ sum_same ◌+◌ 0 naturals (length ns) _ _
        (λ k h. ap (λ (n : ℕ). cond (passes k) n 0) (listed_at (length ns) _ k 0 h) ∙ under_swapped (passes k) (eqb (code k) c) (entry inside k)))
        ∙ sum_classes ◌+◌ 0 naturals (length ns) settlement_codes code of_inside (λ k h. codes (notice_of ns k).section (sections k h)))
        (formed_outside.by_notice test)
        ∙ sym (sum_both ◌+◌ 0 naturals (length ns) of_inside of_outside)
        ∙ sum_same ◌+◌ 0 naturals (length ns) _ _ (λ k h. under_sum (passes k) (entry inside k) (entry outside k) _ refl)

    -- a section's lots in the register, bought or sold, are its inside and outside lots, where the notices have those of a short section and none of any other
    pub register_section : (i : ℕ) → i < length ss
        → (is_long (position_of (section_of ss i)) ≡ true → drawn_for i ≡ 0)
        → (is_short (position_of (section_of ss i)) ≡ true → drawn_for i ≡ entry near i + entry far i)
        → (is_long (position_of (section_of ss i)) ≡ false → is_short (position_of (section_of ss i)) ≡ false → (drawn_for i ≡ 0) × (entry near i + entry far i ≡ 0))
        → line_lots (λ (l : Line). eqb l.buyer i || eqb l.seller i) all_lines ≡ entry near i + entry far i
    register_section i h of-long of-short of_none = go (is_long p) (is_short p) refl refl
      where
        p : ℤ
        p = position_of (section_of ss i)

        lots : ℕ
        lots = entry near i + entry far i

        either : Either (λ (l : Line). eqb l.buyer i) (λ (l : Line). eqb l.seller i) all_lines
        either = either_lots (λ (l : Line). eqb l.buyer i) (λ (l : Line). eqb l.seller i) all_lines

        bought : (t : Bool) → is_long p ≡ t → line_lots (λ (l : Line). eqb l.buyer i) all_lines ≡ cond t lots 0
        bought t e = buyer_lots i h ∙ ap (λ (s : Bool). cond s lots 0) e

        sold : line_lots (λ (l : Line). eqb l.seller i) all_lines ≡ drawn_for i
        sold = notice_lots (λ (s e : ℕ). eqb s i)

        go : (long short : Bool) → is_long p ≡ long → is_short p ≡ short → line_lots (λ (l : Line). eqb l.buyer i || eqb l.seller i) all_lines ≡ lots
        go true short e e' = omega (arith, either, bought true e, sold, of-long e)
        go false true e e' = omega (arith, either, bought false e, sold, of-short e')
        go false false e e' = omega (arith, either, bought false e, sold, of_none e e')
