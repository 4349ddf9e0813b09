-- A pass by its columns is the pass of the sections and the notices that have these columns (01, Expiry, 6.1).
use Rattle.numbers.proofs.Words.{ℕ, ◌+◌, ◌<◌, arith, ◌≡◌, sym, ap, ◌∙◌, List, length, length-map, entry, ℤ}
use Rattle.rules.specs.declared.book.{Section.Section, Notice.Notice}
use Rattle.rules.specs.Book.{elevators}
use Rattle.rules.specs.Expiry.{lower_section_code}
use Rattle.rules.specs.Expiry.Passes.{Pair, Pass, sellers_in, elevators_in, elevator_lots, stage_one, stage_two, pairs_of, lines_of}
use Rattle.method_laws.specs.Columns.{by_key, Columns, Filed}
use Rattle.method_passes.specs.Formed.{pass_pairs, pass_lines, lines_from}
use Rattle.method_passes.proofs.Stages.{known_pairs, same_pairs, same_lines}

module _ {ss : List Section} {codes keys : List ℕ} {positions : List ℤ} {ns : List Notice} {sellers stands lots : List ℕ} (sections : Columns ss codes positions keys) (notices : Filed ns sellers stands lots)
    (pass : Pass) (long : length pass.buyers ≡ length ss) where
  pub pass_pairs_lem : pass_pairs (by_key keys) stands pass.buyers pass.drawn ≡ pairs_of ss ns pass
  unfolding pairs_of
  pass_pairs_lem =
      let stocks = elevator_lots stands pass.drawn in
      ap (λ (n : ℕ). stage_one (by_key keys) (n + elevators) pass.buyers stocks) long
      ∙ same_pairs (by_key keys) (lower_section_code ss) (length ss) (λ i j h k. sym (sections.keys_lower i j h k)) (length ss + elevators) pass.buyers stocks long
      ∙ ap (λ (at : List ℕ). stage_one (lower_section_code ss) (length ss + elevators) pass.buyers (elevator_lots at pass.drawn)) notices.stands_are

  pub pass_lines_lem : ((k : ℕ) → k < length stands → entry sellers k < length ss) → pass_lines (by_key keys) sellers stands pass.buyers pass.drawn ≡ lines_of ss ns pass
  unfolding lines_of
  pass_lines_lem sold =
      let ps = pass_pairs (by_key keys) stands pass.buyers pass.drawn in
      let qs = pairs_of ss ns pass in
      same_lines (by_key keys) (lower_section_code ss) (length ss) (λ i j h k. sym (sections.keys_lower i j h k)) sellers stands sold (length ps + length stands) ps pass.drawn
      (λ k h. omega (arith, long, known_pairs (by_key keys) (length pass.buyers + elevators) pass.buyers (elevator_lots stands pass.drawn) k h))
      ∙ ap (λ (rs : List Pair). lines_from (lower_section_code ss) sellers stands rs pass.drawn) pass_pairs_lem
      ∙ ap (λ (who : List ℕ). lines_from (lower_section_code ss) who stands qs pass.drawn) notices.sellers_are
      ∙ ap (λ (at : List ℕ). lines_from (lower_section_code ss) (sellers_in ns) at qs pass.drawn) notices.stands_are
      ∙ ap (λ (n : ℕ). stage_two (lower_section_code ss) (sellers_in ns) (elevators_in ns) (length qs + n) qs pass.drawn) (length-map ns _)
