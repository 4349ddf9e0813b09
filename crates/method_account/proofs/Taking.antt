-- What the passes of a good book take, by its columns, and what their stages ask of it.
use Rattle.numbers.proofs.Words.{ℕ, ◌≤◌, ◌<◌, arith, ◌≡◌, refl, sym, ap, ap₂, ◌∙◌, cond, ◌&&◌, List, take, length, eqb, ℤ, listed, entry, entry_ℤ}
use Rattle.numbers.proofs.Ranges.{listed-length, listed_at, listed_same, listed_under, less_at}
use Rattle.numbers.proofs.Under.{under_two, under_swapped}
use Rattle.rules.specs.declared.book.{Book.Book, Section.Section, Notice.Notice}
use Rattle.rules.specs.Book.{held_sections, filed_notices, section_of, notice_of}
use Rattle.rules.specs.Expiry.{is_long, shares_in_codes, Outside.outside, Drawing.drawn}
use Rattle.rules.specs.Expiry.Passes
use Rattle.book_laws.proofs.Good.{Good}
use Rattle.book_laws.proofs.ExpiryLists.{remaining_length}
use Rattle.method_laws.specs.Columns.{notice_lots_in, by_key, Small}
use Rattle.method_laws.proofs.Columns.{code_at, position_at, seller_at, lots_at_lem, sellers_long, stands_long}
use Rattle.method_laws.proofs.Drawing.{drawn_within}
use Rattle.method_columns.proofs.Laws.{seller_within, stand_within, lots_within}
use Rattle.method_passes.specs.Formed.{pairs_in, lines_in, pass_pairs, pass_lines, Sold}
use Rattle.method_passes.proofs.Arrays.{pairs_count, lines_count}
use Rattle.method_passes.proofs.Stages.{pass_known_lem}
use Rattle.method_passes.proofs.Passed.{pass_pairs_lem, pass_lines_lem}
use Rattle.method_register.specs.Passes.{long_lots, lots_in_code, drawn_in_code}
use Rattle.method_delivery.specs.Lent.{ColumnsOf, remaining_of}
use Rattle.method_delivery.proofs.Book.{sections_held, notices_filed, few_lines, columns, held_columns}
use Rattle.method_stages.proofs.Laws.{inside_lines_lem, outside_lines_lem}
use Rattle.method_account.specs.declared.passes.{Pass.Pass}
use Rattle.method_account.specs.Passes.{near_of, far_of, drawn_near, drawn_far, inside_of, outside_of, PassOf}

module _ {b : Book} (book : Good b) where
  abbrev ss : List Section
  ss = held_sections b

  abbrev ns : List Notice
  ns = filed_notices b

  -- the lists are as long as the sections held and the notices filed
  pub near_long : length (near_of b) ≡ b.held
  near_long = listed-length (length (remaining_of b)) _ ∙ remaining_length ss ns ∙ sections_held book

  pub far_long : length (far_of b) ≡ b.held
  unfolding outside shares_in_codes
  far_long = listed-length (length ss) _ ∙ sections_held book

  pub drawn_near_long : length (drawn_near b) ≡ b.filed
  unfolding drawn
  drawn_near_long = listed-length (length ns) _ ∙ notices_filed book

  pub drawn_far_long : length (drawn_far b) ≡ b.filed
  unfolding drawn
  drawn_far_long = listed-length (length (drawn ss ns (remaining_of b))) _ ∙ listed-length (length ns) _ ∙ notices_filed book

  -- no more is drawn of a notice than it has (01, Expiry, 5.1)
  both_small : (k : ℕ) → (entry (drawn_near b) k ≤ 1_000_000) × (entry (drawn_far b) k ≤ 1_000_000)
  both_small k =
      let most = drawn_within ss ns (near_of b) (remaining_of b) (λ i. omega (arith, less_at (remaining_of b) (far_of b) i)) k in
      let lots = lots_within b book refl k in
      let own = lots_at_lem ns refl k in
      (omega (arith, most, lots, own), omega (arith, most, lots, own))

  module _ {codes : List ℕ} {positions : List ℤ} {keys selling stands : List ℕ} (e : ColumnsOf b codes positions keys selling stands (notice_lots_in ns)) where
    pub keys_held : length keys ≡ b.held
    keys_held = (held_columns book e b.held refl).keys_long

    pub selling_filed : length selling ≡ b.filed
    selling_filed = sellers_long ns e.filed.sellers_are ∙ notices_filed book

    pub stands_filed : length stands ≡ b.filed
    stands_filed = stands_long ns e.filed.stands_are ∙ notices_filed book

    -- an inside pass takes the lots of its code's long sections, and what is drawn of its code's notices (01, Expiry, 6.1)
    pub bought_inside : (c : ℕ) → long_lots positions (lots_in_code codes (near_of b) c) ≡ (inside_of b c).buyers
    unfolding Passes.inside_pass
    bought_inside c =
        let near = near_of b in
        ap (λ (m : ℕ). listed m (λ (i : ℕ). cond (is_long (entry_ℤ positions i)) (entry (lots_in_code codes near c) i) 0)) (listed-length (length near) _ ∙ near_long ∙ sym (sections_held book))
        ∙ listed_same (length ss) _ _
        (λ i h.
        ap (λ (n : ℕ). cond (is_long (entry_ℤ positions i)) n 0) (listed_at (length near) _ i 0 (omega (arith, h, near_long, sections_held book)))
        ∙ under_swapped (is_long (entry_ℤ positions i)) (eqb (entry codes i) c) (entry near i)
        ∙ sym (under_two (is_long (entry_ℤ positions i)) (eqb (entry codes i) c) (entry near i))
        ∙ ap₂ (λ (z : ℤ) (m : ℕ). cond (is_long z && eqb m c) (entry near i) 0) (position_at ss e.positions_are i) (code_at ss e.codes_are i))

    pub drawn_inside_lem : (c : ℕ) → drawn_in_code codes selling (drawn_near b) c ≡ (inside_of b c).drawn
    unfolding Passes.inside_pass
    drawn_inside_lem c =
        let inner = drawn_near b in
        ap (λ (m : ℕ). listed m (λ (k : ℕ). cond (eqb (entry codes (entry selling k)) c) (entry inner k) 0)) (drawn_near_long ∙ sym (notices_filed book))
        ∙ listed_same (length ns) _ _
        (λ k h.
        ap (λ (m : ℕ). cond (eqb m c) (entry inner k) 0) (code_at ss e.codes_are (entry selling k) ∙ ap (λ (i : ℕ). (section_of ss i).settlement) (seller_at ns e.filed.sellers_are k)))

    -- the outside pass takes the outside lots of the long sections
    pub bought_outside : long_lots positions (far_of b) ≡ (outside_of b).buyers
    unfolding Passes.outside_pass
    bought_outside =
        ap (λ (m : ℕ). listed m (λ (i : ℕ). cond (is_long (entry_ℤ positions i)) (entry (far_of b) i) 0)) (far_long ∙ sym (sections_held book))
        ∙ listed_same (length ss) _ _ (λ i h. ap (λ (z : ℤ). cond (is_long z) (entry (far_of b) i) 0) (position_at ss e.positions_are i))

    known_seller : (k : ℕ) → k < length stands → entry selling k < b.held
    known_seller k h = seller_within b book e.filed.sellers_are k (omega (arith, h, selling_filed, stands_filed))

    -- what is drawn is sold by known sections (01, Expiry, 6.3)
    pub sold_of : (drawn : List ℕ) → length drawn ≡ b.filed → Small drawn → Sold selling stands drawn (length keys)
    sold_of drawn long small =
        record {
          notices = record { few = omega (arith, stands_filed, book.filed); long = long ∙ sym stands_filed; standing = stand_within b book e.filed.stands_are; small = small };
          long = selling_filed ∙ sym stands_filed;
          seller = λ k h. omega (arith, keys_held, known_seller k h);
        }

    -- a pass that takes these lists forms the pairs and the lines of the definition (01, Expiry, 6.1)
    module _ (pass : Passes.Pass) (long : length pass.buyers ≡ b.held) (few : length (Passes.lines_of ss ns pass) ≤ 382) (buyers drawn : List ℕ) (buys : buyers ≡ pass.buyers) (draws : drawn ≡ pass.drawn) where
      all_held : length pass.buyers ≡ length ss
      all_held = long ∙ sym (sections_held book)

      lines_by_lem : pass_lines (by_key keys) selling stands buyers drawn ≡ Passes.lines_of ss ns pass
      lines_by_lem =
          ap₂ (pass_lines (by_key keys) selling stands) buys draws
          ∙ pass_lines_lem (columns book e) e.filed pass all_held (λ k h. omega (arith, known_seller k h, sections_held book))

      pub room : length (pass_lines (by_key keys) selling stands buyers drawn) ≤ 382
      room = omega (arith, few, ap length lines_by_lem)

      pub passed : (held filed : ℕ) (r : Pass) → held ≡ b.held → filed ≡ b.filed → take held r.buyers ≡ buyers → take filed r.drawn ≡ drawn
          → r.stages.stocks ≡ Passes.elevator_lots stands drawn → pairs_in r.stages.pairs ≡ pass_pairs (by_key keys) stands buyers drawn
          → lines_in r.stages.lines ≡ pass_lines (by_key keys) selling stands buyers drawn → PassOf b pass r
      passed held filed r h f buyers_are drawn_are stocks pairs lines =
          let known = pass_known_lem (by_key keys) stands buyers drawn (omega (arith, ap length buys, long, book.held)) in
          record {
            buyers_are = ap (λ (n : ℕ). take n r.buyers) (sym h) ∙ buyers_are ∙ buys;
            drawn_are = ap (λ (n : ℕ). take n r.drawn) (sym f) ∙ drawn_are ∙ draws;
            stocks_are = stocks ∙ ap₂ Passes.elevator_lots e.filed.stands_are draws;
            pairs_are = pairs ∙ ap₂ (pass_pairs (by_key keys) stands) buys draws ∙ pass_pairs_lem (columns book e) e.filed pass all_held;
            lines_are = lines ∙ lines_by_lem;
            few_pairs = omega (arith, pairs_count r.stages.pairs, ap length pairs, known.few);
            few_lines = omega (arith, lines_count r.stages.lines, ap length (lines ∙ lines_by_lem), few);
          }

  -- the lines of a pass find room (01, Expiry call, 1)
  pub inside_few : (c : ℕ) → c < 64 → length (Passes.lines_of ss ns (inside_of b c)) ≤ 382
  inside_few c h = omega (arith, inside_lines_lem ss ns c h, few_lines book)

  pub outside_few : length (Passes.lines_of ss ns (outside_of b)) ≤ 382
  outside_few = omega (arith, outside_lines_lem ss ns, few_lines book)

  -- a pass has an entry for each section held
  pub inside_long : (c : ℕ) → length (inside_of b c).buyers ≡ b.held
  unfolding Passes.inside_pass
  inside_long c = listed-length (length ss) _ ∙ sections_held book

  pub outside_long : length (outside_of b).buyers ≡ b.held
  unfolding Passes.outside_pass
  outside_long = listed-length (length ss) _ ∙ sections_held book

  -- and what it draws of a notice is no more than a position may have
  pub inside_small : (c : ℕ) → Small (inside_of b c).drawn
  unfolding Passes.inside_pass
  inside_small c k = omega (arith, listed_under (length ns) (λ (j : ℕ). eqb (section_of ss (notice_of ns j).section).settlement c) (entry (drawn_near b)) k, (both_small k).0)

  pub outside_small : Small (outside_of b).drawn
  unfolding Passes.outside_pass
  outside_small k = (both_small k).1
