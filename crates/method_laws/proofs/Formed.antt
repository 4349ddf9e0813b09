-- A pass: its two stages together.
use Rattle.numbers.proofs.Words.{ℕ, zero, suc, ◌+◌, ◌≤◌, ◌<◌, zero-min, arith, ◌≡◌, refl, sym, ap, ap₂, ◌∙◌, Bool, cond, List, [], ◌⊎◌, inl, inr, ⊎_elim, eqb, ltb, length, length-map, get_or-map, listed, entry, total}
use Rattle.rules.specs.declared.book.{Section.Section, Notice.Notice}
use Rattle.numbers.proofs.Counts.{live, many_most, many-same}
use Rattle.numbers.proofs.Sums.{naturals}
use Rattle.numbers.proofs.Ranges.{sum_same}
use Rattle.rules.specs.Book.{elevators, notice_of, blank_notice}
use Rattle.rules.specs.Expiry.{lower_section_code}
use Rattle.rules.specs.Expiry.Passes.{Pair, Line, Pass, sellers_in, elevators_in, elevator_lots, pairs_of, lines_of, stage_two}
use Rattle.method_laws.proofs.Elevators.{elevators_length, elevators_total, elevators_at}
use Rattle.method_laws.proofs.StageOne.{Paired, paired}
use Rattle.method_laws.proofs.StageTwo.{line_lots, live_pairs, live_elevators, Lined, lined}

-- what the lines of a pass come to: each buyer's lots and each notice's drawn lots are all in them, and they are fewer than the buyers and the notices with lots
pub record Formed (ss : List Section) (ns : List Notice) (pass : Pass) : Type 0 where
  pub by_buyer : (b : ℕ) → line_lots (λ (l : Line). eqb l.buyer b) (lines_of ss ns pass) ≡ entry pass.buyers b
  pub by_notice : (test : ℕ → ℕ → Bool) → line_lots (λ (l : Line). test l.seller l.elevator) (lines_of ss ns pass)
      ≡ total (listed (length ns) (λ (k : ℕ). cond (test (notice_of ns k).section (notice_of ns k).elevator) (entry pass.drawn k) 0))
  pub few : (lines_of ss ns pass ≡ []) ⊎ (length (lines_of ss ns pass) + 1 ≤ live (length ss) (entry pass.buyers) + live (length ns) (entry pass.drawn))

-- where there is no pair, there is no line
no_pair_lem : (lower : ℕ → ℕ → Bool) (sellers stands : List ℕ) (turns : ℕ) (drawn : List ℕ) → stage_two lower sellers stands turns [] drawn ≡ []
unfolding stage_two
no_pair_lem lower sellers stands zero drawn = refl
no_pair_lem lower sellers stands (suc turns) drawn = rw (zero-min, stage_two) refl

module _ (ss : List Section) (ns : List Notice) (standing : (k : ℕ) → k < length ns → (notice_of ns k).elevator < elevators) (pass : Pass)
    (long_buyers : length pass.buyers ≡ length ss) (long_drawn : length pass.drawn ≡ length ns) (even : total pass.buyers ≡ total pass.drawn) where
  -- the notices' columns
  abbrev stands : List ℕ
  stands = elevators_in ns

  long_stands : length stands ≡ length ns
  long_stands = length-map ns _

  stand_at : (k : ℕ) → entry stands k ≡ (notice_of ns k).elevator
  stand_at k = get_or-map _ ns k blank_notice

  standing' : (k : ℕ) → k < length stands → entry stands k < elevators
  standing' k h = omega (arith, stand_at k, standing k (omega (arith, h, long_stands)))

  long_drawn' : length pass.drawn ≡ length stands
  long_drawn' = long_drawn ∙ sym long_stands

  abbrev at_elevators : List ℕ
  at_elevators = elevator_lots stands pass.drawn

  abbrev ps : List Pair
  ps = pairs_of ss ns pass

  -- the turns of stage one are enough, so all lots are paired
  all_paired : Paired pass.buyers at_elevators ps
  unfolding pairs_of
  all_paired =
      paired (lower_section_code ss) (length ss + elevators) pass.buyers at_elevators
      (even ∙ sym (elevators_total stands pass.drawn standing' long_drawn'))
      (omega (
        arith,
        many_most (length pass.buyers) (λ (b : ℕ). ltb 0 (entry pass.buyers b)),
        many_most (length at_elevators) (λ (e : ℕ). ltb 0 (entry at_elevators e)),
        long_buyers,
        elevators_length stands pass.drawn,
      ))

  few_pairs : live_pairs ps ≤ length ps
  few_pairs = many_most (length ps) _

  -- so are the turns of stage two, so all pairs get their lines
  all_lined : Lined (sellers_in ns) stands ps pass.drawn (lines_of ss ns pass)
  unfolding lines_of
  all_lined =
      lined (lower_section_code ss) (sellers_in ns) stands (length ps + length ns) ps pass.drawn long_drawn' standing'
      (λ e. all_paired.by_elevator e ∙ elevators_at stands pass.drawn e standing')
      (omega (arith, few_pairs, long_stands, many_most (length stands) (λ (k : ℕ). ltb 0 (entry pass.drawn k))))

  same_live : live (length at_elevators) (entry at_elevators) ≡ live_elevators stands pass.drawn
  same_live =
      ap (λ (n : ℕ). live n (entry at_elevators)) (elevators_length stands pass.drawn)
      ∙ many-same elevators _ _ (λ e h. ap (ltb 0) (elevators_at stands pass.drawn e standing'))

  -- every line but the last of a pass ends a buyer or a notice
  few_lines : (lines_of ss ns pass ≡ []) ⊎ (length (lines_of ss ns pass) + 1 ≤ live (length ss) (entry pass.buyers) + live (length ns) (entry pass.drawn))
  unfolding lines_of
  few_lines =
      ⊎_elim
      (λ (h : ps ≡ []). inl (ap (λ (qs : List Pair). stage_two (lower_section_code ss) (sellers_in ns) stands (length qs + length ns) qs pass.drawn) h ∙ no_pair_lem (lower_section_code ss) (sellers_in ns) stands _ pass.drawn))
      (λ (h : length ps + 1 ≤ live (length pass.buyers) (entry pass.buyers) + live (length at_elevators) (entry at_elevators)).
      inr (omega (arith, h, few_pairs, all_lined.few, same_live, ap (λ (n : ℕ). live n (entry pass.buyers)) long_buyers, ap (λ (n : ℕ). live n (entry pass.drawn)) long_stands)))
      all_paired.few

  by_columns : (test : ℕ → ℕ → Bool) → total (listed (length stands) (λ (k : ℕ). cond (test (entry (sellers_in ns) k) (entry stands k)) (entry pass.drawn k) 0))
      ≡ total (listed (length ns) (λ (k : ℕ). cond (test (notice_of ns k).section (notice_of ns k).elevator) (entry pass.drawn k) 0))
  by_columns test =
      ap (λ (n : ℕ). total (listed n (λ (k : ℕ). cond (test (entry (sellers_in ns) k) (entry stands k)) (entry pass.drawn k) 0))) long_stands
      ∙ sum_same ◌+◌ 0 naturals (length ns) _ _ (λ k h. ap₂ (λ (s e : ℕ). cond (test s e) (entry pass.drawn k) 0) (get_or-map _ ns k blank_notice) (stand_at k))

  -- a pass with as many lots to buy as are drawn forms its lines
  pub formed : Formed ss ns pass
  formed = record { by_buyer = λ b. all_lined.by_buyer b ∙ all_paired.by_buyer b; by_notice = λ test. all_lined.by_notice test ∙ by_columns test; few = few_lines }
