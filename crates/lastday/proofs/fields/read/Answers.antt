use Rattle.std.proofs.Common.{rules, tests}
use Rattle.std.proofs.lemmas.List.{length_push}
use Rattle.std.proofs.lemmas.Iterator.Consumers.{YieldsList-turn, YieldsList-end}
use Rattle.std.proofs.lemmas.Iterator.Splits.{YieldsList-from_slice_split}
use Rattle.numbers.proofs.Words.{◌<◌, arith, ◌≡◌, true, sym, ap, ◌∙◌, length, get_or, eqb}
use Rattle.numbers.specs.Text.{is_number, digits_value}
use Rattle.program_words.proofs.Digits.{is_number_lem, is_none}
use Rattle.lastday.specs.Rows.{fields_of}
use Rattle.lastday.proofs.Laws.Fields.{cut_fields, field_here, reading_start, reading_room, reading_next, reading_stop, reading_end}
use Rattle.lastday.proofs.fields.read.Goals as goal
use Rattle.lastday.proofs.fields.read.Goals.{In-Some, In_ok-numbers}

-- the field at hand
here : (c : In-Some) → (c.loop-field.count < length (fields_of c.args.row.now)) × (c.in-Some.field.now ≡ get_or (fields_of c.args.row.now) c.loop-field.count c.in-Some.field.now)
here c =
    field_here c.args.row.now c.loop-field.count c.in-Some.field.now c.loop-field.invariant.0
    (YieldsList-turn (YieldsList-from_slice_split _ (λ b. eqb b 32) c.args.row.now (search rules) (search rules) (search rules) (λ x b q k. search (rules, tests))) c.loop-field.yielded _ c.loop-field.yielded_by _ _ c.in-Some.field c.in-Some.is c.next.ensures.steps)

-- past the test it is a number
told : (c : In_ok-numbers) → (is_number c.in-Some.field.now ≡ true) × (c.in_ok-numbers.field-0 ≡ digits_value c.in-Some.field.now)
told c = is_number_lem _ _ (sym c.number.ensures ∙ c.in_ok-numbers.was)

pub loop-field-init : goal.loop-field-init
loop-field-init c = (search rules, reading_start _ _ c.requires.1)

pub returns-in_err-numbers : goal.returns-in_err-numbers
returns-in_err-numbers c =
    let at = here (goal.at.returns-in_err-numbers c).In-Some in
    rw c.from_residual.ensures (reading_stop c.loop-field.invariant.1 at.0 _ _ at.1 (is_none _ (sym c.number.ensures ∙ c.in_err-numbers.was)))

pub bounds-numbers-count : goal.bounds-numbers-count
bounds-numbers-count c =
    let at = here (goal.at.bounds-numbers-count c).In-Some in
    reading_room c.loop-field.invariant.1 at.0 _ _ at.1 (told (goal.at.bounds-numbers-count c).In_ok-numbers).0 c.requires.0

pub loop-field-preserved : goal.loop-field-preserved
loop-field-preserved c =
    let at = here (goal.at.loop-field-preserved c).In-Some in
    let number = told (goal.at.loop-field-preserved c).In_ok-numbers in
    (omega (arith, c.loop-field.invariant.0, length_push c.loop-field.yielded c.in-Some.field), reading_next c.loop-field.invariant.1 at.0 _ _ at.1 number.0 c.requires.0 number.1)

pub returns : goal.returns
returns c =
    let ended = YieldsList-end (YieldsList-from_slice_split _ (λ b. eqb b 32) c.args.row.now (search rules) (search rules) (search rules) (λ x b q k. search (rules, tests))) c.loop-field.yielded _ c.loop-field.yielded_by _ _ c.in-None.is c.next.ensures.steps in
    reading_end c.loop-field.invariant.1 c.requires.0 (omega (arith, c.loop-field.invariant.0, ended.1, ap length (cut_fields c.args.row.now)))
