-- What the method leaves each section, then the lines formed of it, then what is kept and what lapses; all is written.
use Rattle.numbers.proofs.Words.{ℕ, ◌≡◌, sym, ap, ap₂, subst, ◌∙◌, List, ◌++◌, take, drop, length, replicate, length-take-le, less}
use Rattle.numbers.proofs.Front.{noughts_front, Front, front_of}
use Rattle.rules.specs.Book.{held_sections, filed_notices}
use Rattle.rules.specs.Expiry.Call.{lapsed, delivered, expiry_written}
use Rattle.rules.specs.Expiry.Passes.{Line}
use Rattle.rules.specs.Lent.{lists_of}
use Rattle.book_laws.proofs.Good.{facts}
use Rattle.method_laws.specs.Columns.{Small}
use Rattle.method_columns.proofs.Laws.{position_within}
use Rattle.method_passes.proofs.Arrays.{lines_count}
use Rattle.method_delivery.specs.Lent.{kept_for, remaining_of, lines_over, sections_over}
use Rattle.method_delivery.proofs.Book.{sections_held, terminated_is}
use Rattle.method_delivery.proofs.Taken
use Rattle.method_delivery.proofs.run.Goals as goal

pub slice_bounds-kept-end : goal.slice_bounds-kept-end
slice_bounds-kept-end c = (facts _ c.requires.b_value.0).held

pub slice_bounds-form-end : goal.slice_bounds-form-end
slice_bounds-form-end c = sym (length-take-le _ (replicate 128 0) (facts _ c.requires.b_value.0).held)

pub form-formed-requires : goal.form-formed-requires
form-formed-requires c = (c.requires.b_value.0, length-take-le _ (replicate 128 0) (facts _ c.requires.b_value.0).held, c.requires.b_value.1)

pub slice_bounds-gone-end : goal.slice_bounds-gone-end
slice_bounds-gone-end c = (facts _ c.requires.b_value.0).held

pub slice_bounds-take_out-end : goal.slice_bounds-take_out-end
slice_bounds-take_out-end c = sym (length-take-le _ (replicate 128 0) (facts _ c.requires.b_value.0).held)

pub take_out-standing-requires-clause-known : goal.take_out-standing-requires-clause-known
take_out-standing-requires-clause-known c =
    let book = facts _ c.requires.b_value.0 in
    let persons = c.requires.b_value.2 in (
      Taken.known book persons _ c.form-formed.ensures.pairs_value.1,
      noughts_front _ 128 book.held ∙ ap (λ (n : ℕ). replicate n 0) (sym (Taken.participants_long book persons ∙ sections_held book)),
    )

pub slice_bounds-kept-end-2 : goal.slice_bounds-kept-end-2
slice_bounds-kept-end-2 c = (front_of _ (replicate 128 0) c.form-formed.new.kept (facts _ c.requires.b_value.0).held c.form-formed.auto.kept).fits

pub slice_bounds-write_sections-end : goal.slice_bounds-write_sections-end
slice_bounds-write_sections-end c = sym (front_of _ (replicate 128 0) c.form-formed.new.kept (facts _ c.requires.b_value.0).held c.form-formed.auto.kept).long

pub slice_bounds-gone-end-2 : goal.slice_bounds-gone-end-2
slice_bounds-gone-end-2 c = (front_of _ (replicate 128 0) c.take_out-standing.new.gone (facts _ c.requires.b_value.0).held c.take_out-standing.auto.gone).fits

pub slice_bounds-write_sections-end-2 : goal.slice_bounds-write_sections-end-2
slice_bounds-write_sections-end-2 c = sym (front_of _ (replicate 128 0) c.take_out-standing.new.gone (facts _ c.requires.b_value.0).held c.take_out-standing.auto.gone).long

-- one local list holds what the method leaves, and a second one what lapses
pub write_sections-requires-clause-by_index : goal.write_sections-requires-clause-by_index
write_sections-requires-clause-by_index c =
    let b = c.args.b in
    let book = facts _ c.requires.b_value.0 in
    let front : Front b.held (replicate 128 0) c.form-formed.new.kept = front_of _ _ _ book.held c.form-formed.auto.kept in
    let gone_front : Front b.held (replicate 128 0) c.take_out-standing.new.gone = front_of _ _ _ book.held c.take_out-standing.auto.gone in
    let small : Small (remaining_of b) = subst Small c.form-formed.ensures.kept_after.0 c.form-formed.ensures.kept_after.1 in
    let gone_is : take b.held (c.take_out-standing.new.gone ++ drop b.held (replicate 128 0)) ≡ lapsed (held_sections b) (filed_notices b) =
    gone_front.is ∙ c.take_out-standing.ensures.gone_after ∙ Taken.lapsed_is book c.requires.b_value.2 c.form-formed.result.register c.form-formed.ensures.pairs_value.1 in
    (position_within b book c.requires.b_value.1.positions_are, subst Small (sym front.is) c.form-formed.ensures.kept_after.1, subst Small (sym gone_is) (Taken.lapsed_small book small))

-- the lines formed are those of the book's expiry
pub returns-clause-pairs_value : goal.returns-clause-pairs_value
returns-clause-pairs_value c =
    let book = facts _ c.requires.b_value.0 in
    let register = c.form-formed.result.register in
    let lines_are = c.form-formed.ensures.pairs_value.1 in
    (c.form-formed.ensures.pairs_value.0, sym (lines_count register) ∙ ap length lines_are, c.take_out-standing.ensures.value ∙ ap length (Taken.kept_is book c.requires.b_value.2 register lines_are))

pub returns-clause-lists_after : goal.returns-clause-lists_after
unfolding expiry_written delivered
returns-clause-lists_after c =
    let a = c.args in
    let b = a.b in
    let book = facts _ c.requires.b_value.0 in
    let register = c.form-formed.result.register in
    let lines_are = c.form-formed.ensures.pairs_value.1 in
    let front : Front b.held (replicate 128 0) c.form-formed.new.kept = front_of _ _ _ book.held c.form-formed.auto.kept in
    let gone_front : Front b.held (replicate 128 0) c.take_out-standing.new.gone = front_of _ _ _ book.held c.take_out-standing.auto.gone in
    let kept_is : take b.held (c.form-formed.new.kept ++ drop b.held (replicate 128 0)) ≡ remaining_of b = front.is ∙ c.form-formed.ensures.kept_after.0 in
    let gone_is : take b.held (c.take_out-standing.new.gone ++ drop b.held (replicate 128 0)) ≡ lapsed (held_sections b) (filed_notices b) =
    gone_front.is ∙ c.take_out-standing.ensures.gone_after ∙ Taken.lapsed_is book c.requires.b_value.2 register lines_are in
    let kept_lines = Taken.kept_is book c.requires.b_value.2 register lines_are in
    let lent = lists_of a.lists.now in
    let registered : lists_of c.take_out-standing.new.lists ≡ lines_over (kept_for b) lent = c.take_out-standing.ensures.lists_after ∙ ap (λ (ls : List Line). lines_over ls lent) kept_lines in
    c.write_sections.ensures.lists_after
    ∙ λ k. sections_over (ap₂ less kept_is gone_is k) (terminated_is book c.requires.b_value.1 kept_is k) (gone_is k) (registered k)
