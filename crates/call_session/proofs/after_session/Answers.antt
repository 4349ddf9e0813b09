use Rattle.numbers.proofs.Words.{◌≤◌, ◌<◌, arith, ◌≡◌, refl, sym, ap, ap₂, subst, ◌∙◌, cond, List, [], length, set, ℤ, pos, ◌+ℤ◌, entry_ℤ, nat_abs, w64, SFits, to_z, of_z}
use Rattle.rules.specs.declared.{book.Section.Section, units.Kopecks.Kopecks}
use Rattle.numbers.proofs.Lists.{Has, has, written_next}
use Rattle.numbers.proofs.Filled.{filled_none, filled_length, filled_next, filled_here, filled_over}
use Rattle.numbers.proofs.Whole.{read_back}
use Rattle.value_laws.proofs.Value.{value_within}
use Rattle.rules.specs.Book.{section_at, section_of_noughts, value_at}
use Rattle.rules.specs.Calls.{settled, margin_of, after_session}
use Rattle.book_laws.proofs.Accepted.{NewSession, session}
use Rattle.book_laws.proofs.Good.{Good}
use Rattle.book_laws.proofs.Held.{held_good, held_basis}
use Rattle.call_session.specs.Paid.{paid_to}
use Rattle.call_session.proofs.after_session.Goals as goal
use Rattle.call_session.proofs.after_session.Goals.{After-loop-i, After-margin, After-value_at-value, In-loop-i, Start}

accepted : (c : Start) → NewSession c.args.b c.args.price (length c.args.list.now)
accepted c = session _ _ _ c.requires.0

book : (c : Start) → Good c.args.b
book c = (accepted c).book

place : (c : In-loop-i) → c.loop-i.i < 128
place c = omega (arith, (book c.before.before.before.before).held)

here : (c : In-loop-i) → Has c.args.b.sections c.loop-i.i (section_at c.args.b c.loop-i.i)
here c = has _ _ (section_of_noughts []) (omega (arith, place c, (book c.before.before.before.before).section_places_lem))

-- the list has a place for each section held
listed : (c : In-loop-i) → c.loop-i.i < length c.args.list.now
listed c = omega (arith, (accepted c.before.before.before.before).places)

list_place : (c : In-loop-i) → c.loop-i.i < length c.loop-i.list
list_place c = omega (arith, listed c, filled_length c.loop-i.invariant.1)

value_small : (c : After-value_at-value) → nat_abs c.value_at-value.result.0 ≤ 1_000_000_000
value_small c =
    subst (λ (v : Kopecks). nat_abs v.0 ≤ 1_000_000_000) (sym c.value_at-value.ensures)
    (value_within (book c.before).k.most (accepted c.before).price_range.most)

-- what is paid to the section
paid_is : (c : After-margin) → let at = c in let a = c.args in
    cond a.added (to_z w64 (of_z w64 (entry_ℤ at.loop-i.list at.loop-i.i))) (pos 0) +ℤ to_z w64 (of_z w64 c.margin.result) ≡ paid_to a.added a.b a.price a.list.now at.loop-i.i
unfolding paid_to
paid_is c =
    let at = c in
    let a = c.args in
    ap₂ (λ (x y : ℤ). cond a.added x (pos 0) +ℤ y)
    (read_back w64 _ (search) ∙ filled_here at.loop-i.invariant.1 (listed c.before.before.before) (pos 0))
    (read_back w64 _ (search) ∙ c.margin.ensures ∙ ap (λ (v : Kopecks). margin_of v (section_at a.b at.loop-i.i)) at.value_at-value.ensures)

ended : (c : After-loop-i) → c.loop-i.i ≡ c.args.b.held
ended c = omega arith

pub value_at-value-requires : goal.value_at-value-requires
value_at-value-requires c = (book c).k.most

pub loop-i-init : goal.loop-i-init
loop-i-init c = (refl, filled_none _ _)

pub offset_bounds-b-i : goal.offset_bounds-b-i
offset_bounds-b-i c = omega (arith, place c)

pub bounds-b-i : goal.bounds-b-i
bounds-b-i c = place c

pub slice_copy_out-entry : goal.slice_copy_out-entry
slice_copy_out-entry c = list_place (goal.at.slice_copy_out-entry c).In-loop-i

pub margin-requires : goal.margin-requires
margin-requires c =
    let inside = c in
    let good = book (goal.at.margin-requires c).Start in
    record { s_bound = ((held_good _ good _ inside.loop-i-test.true).position, held_basis _ good _ inside.loop-i-test.true); value_bound = value_small (goal.at.margin-requires c).After-value_at-value }

pub paid-requires : goal.paid-requires
paid-requires c = subst (SFits w64) (sym (paid_is c)) (c.requires.1 _ c.loop-i-test.true)

pub bounds-list-i : goal.bounds-list-i
bounds-list-i c = list_place (goal.at.bounds-list-i c).In-loop-i

pub settled-requires : goal.settled-requires
settled-requires c =
    let inside = c in
    ((held_good _ (book (goal.at.settled-requires c).Start) _ inside.loop-i-test.true).position, value_small (goal.at.settled-requires c).After-value_at-value)

pub offset_bounds-sections-i : goal.offset_bounds-sections-i
offset_bounds-sections-i c = omega (arith, place (goal.at.offset_bounds-sections-i c).In-loop-i)

pub bounds-sections-i : goal.bounds-sections-i
bounds-sections-i c = place (goal.at.bounds-sections-i c).In-loop-i

pub loop-i-preserved : goal.loop-i-preserved
loop-i-preserved c =
    let inside = c in
    let at = inside in
    let b = c.args.b in
    let i = at.loop-i.i in (
      ap₂ (λ (xs : List Section) (s : Section). set xs i s) at.loop-i.invariant.0 (c.settled.ensures ∙ ap (λ (v : Kopecks). settled v (section_at b i)) at.value_at-value.ensures)
          ∙ written_next (settled (value_at b c.args.price)) b.sections (here inside.before.before.before.before.before) (here inside.before.before.before.before.before).below,
      filled_next at.loop-i.invariant.1 (listed inside.before.before.before.before.before) _ (read_back w64 _ (search) ∙ c.paid.ensures ∙ paid_is (goal.at.loop-i-preserved c).After-margin),
    )

pub returns : goal.returns
unfolding after_session
returns c =
    let at = c in
    let a = c.args in
    let all : at.loop-i.i ≡ a.b.held = ended (goal.at.returns c).After-loop-i in record { value = rw (c.following-next.ensures, at.loop-i.invariant.0, all); list_after = filled_over at.loop-i.invariant.1 a.b.held all }
