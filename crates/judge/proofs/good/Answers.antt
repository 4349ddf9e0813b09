use Rattle.numbers.proofs.Words.{◌∙◌, sym, ◌≡◌, true, leb, length, eq-eqb, lt-leb, le-leb, rules}
use Rattle.rules.specs.declared.book.{Book.Book}
use Rattle.numbers.proofs.Lists.{length_mapped}
use Rattle.rules.specs.Book.{terms_good, places_good, last_good, sections_good, good}
use Rattle.judge.proofs.good.Goals as goal
use Rattle.judge.proofs.good.Goals.{After-places_good, After-terms_good, Else-b-gt-TRADES_MOST, Else-not-last_good, Else-not-places_good, Else-not-sections_good, Else-not-terms_good, Start}

section_places_lem : (c : Start) → length c.args.b.sections ≡ 128
section_places_lem c = search (rules, length_mapped)

notice_places_lem : (c : Start) → length c.args.b.notices ≡ 256
notice_places_lem c = search (rules, length_mapped)

-- each part of the definition, as its function judges it, and what is known of the book once it has passed
terms : (c : After-terms_good) → c.terms_good.result ≡ terms_good c.args.b
unfolding terms_good
terms c = c.terms_good.ensures

places : (c : After-places_good) → c.places_good.result ≡ places_good c.args.b
unfolding places_good
places c =
    let start = c in
    simp (eq-eqb _ _ (section_places_lem start.before.before.before.before), eq-eqb _ _ (notice_places_lem start.before.before.before.before)) c.places_good.ensures

abbrev Terms : Book → Type 0
Terms b = terms_good b ≡ true

abbrev Places : Book → Type 0
Places b = Terms b × (places_good b ≡ true)

abbrev Last : Book → Type 0
Last b = Places b × (last_good b.last b.price ≡ true)

abbrev Trades : Book → Type 0
Trades b = Last b × (leb b.trades 2_000 ≡ true)

abbrev Sections : Book → Type 0
Sections b = Trades b × (sections_good b ≡ true)

passed_terms : (c : Else-not-terms_good) → Terms c.args.b
passed_terms c = sym (terms c.before) ∙ c.if-not-terms_good.false

passed_places : (c : Else-not-places_good) → Places c.args.b
passed_places c = (passed_terms c.before.before, sym (places c.before) ∙ c.if-not-places_good.false)

passed_last : (c : Else-not-last_good) → Last c.args.b
passed_last c = (passed_places c.before.before, sym c.last_good.ensures ∙ c.if-not-last_good.false)

passed_trades : (c : Else-b-gt-TRADES_MOST) → Trades c.args.b
passed_trades c = (passed_last c.before.before, le-leb c.args.b.trades 2_000 c.if-b-gt-TRADES_MOST.false)

passed_sections : (c : Else-not-sections_good) → Sections c.args.b
passed_sections c = (passed_trades c.before.before, sym c.sections_good.ensures ∙ c.if-not-sections_good.false)

pub returns-then-not-terms_good : goal.returns-then-not-terms_good
unfolding good
returns-then-not-terms_good c = simp (sym (terms c.before) ∙ c.if-not-terms_good.true)

pub returns-then-not-places_good : goal.returns-then-not-places_good
unfolding good
returns-then-not-places_good c = simp (passed_terms c.before.before, sym (places c.before) ∙ c.if-not-places_good.true)

pub returns-then-not-last_good : goal.returns-then-not-last_good
unfolding good
returns-then-not-last_good c =
    let known = passed_places c.before.before in
    simp (known.0, known.1, sym c.last_good.ensures ∙ c.if-not-last_good.true)

pub returns-then-b-gt-TRADES_MOST : goal.returns-then-b-gt-TRADES_MOST
unfolding good
returns-then-b-gt-TRADES_MOST c =
    let known = passed_last c.before.before in
    simp (known.0.0, known.0.1, known.1, lt-leb c.args.b.trades 2_000 c.if-b-gt-TRADES_MOST.true)

pub returns-then-not-sections_good : goal.returns-then-not-sections_good
unfolding good
returns-then-not-sections_good c =
    let known = passed_trades c.before.before in
    simp (known.0.0.0, known.0.0.1, known.0.1, known.1, sym c.sections_good.ensures ∙ c.if-not-sections_good.true)

pub returns-then-not-notices_good : goal.returns-then-not-notices_good
unfolding good
returns-then-not-notices_good c =
    let known = passed_sections c.before.before in
    simp (known.0.0.0.0, known.0.0.0.1, known.0.0.1, known.0.1, known.1, sym c.notices_good.ensures ∙ c.if-not-notices_good.true)

pub returns : goal.returns
unfolding good
returns c =
    let known = passed_sections c.before.before.before in
    simp (known.0.0.0.0, known.0.0.0.1, known.0.0.1, known.0.1, known.1, sym c.notices_good.ensures ∙ c.if-not-notices_good.false) c.tails_blank.ensures
