use Rattle.numbers.proofs.Words.{◌≡◌, true, ◌∙◌, sym}
use Rattle.rules.specs.Book.{good}
use Rattle.rules.specs.Expiry.Call.{line_of}
use Rattle.rules.specs.Label.{rows_of}
use Rattle.book_laws.proofs.Good.{facts}
use Rattle.book_laws.proofs.Held.{held_good}
use Rattle.shared_lists.specs.Lists.{lists_read}
use Rattle.call_label.proofs.Laws.Label.{label_bad_book, label_unfit, label_rows_unfit, label_accepted, evenly, long_enough, rows_facts}
use Rattle.call_label.proofs.Laws.Rows.{listing_length, none_counted, some_counted}
use Rattle.call_label.proofs.listing_length.Goals as goal

pub returns-then-not-good : goal.returns-then-not-good
returns-then-not-good c = label_bad_book _ (lists_read c.args.lists) (sym c.good.ensures ∙ c.if-not-good.true)

pub returns-then-even-short : goal.returns-then-even-short
returns-then-even-short c =
    label_unfit _ (lists_read c.args.lists) (sym c.good.ensures ∙ c.if-not-good.false) c.register_even-even.ensures c.sections_short-short.ensures c.if-even-short.true

pub lines-requires : goal.lines-requires
lines-requires c =
    let is : good c.args.b ≡ true = sym c.good.ensures ∙ c.if-not-good.false in
    let even = evenly c.args.b (lists_read c.args.lists) is c.register_even-even.ensures c.sections_short-short.ensures c.if-even-short.false in
    ((facts _ is).lot.most, even.few, even.elevators, even.sellers, even.lots)

pub returns-in_default : goal.returns-in_default
returns-in_default c =
    let is : good c.args.b ≡ true = sym c.good.ensures ∙ c.if-not-good.false in
    label_rows_unfit c.args.b (lists_read c.args.lists) is c.register_even-even.ensures c.sections_short-short.ensures (none_counted _ _ (sym c.in_default.is ∙ c.lines.ensures.value))

pub sections-sections-requires : goal.sections-sections-requires
sections-sections-requires c =
    let is : good c.args.b ≡ true = sym c.good.ensures ∙ c.if-not-good.false in
    let long = long_enough c.args.b (lists_read c.args.lists) is c.register_even-even.ensures c.sections_short-short.ensures c.if-even-short.false in
    ((facts _ is).held, long.delivered, long.terminated, long.lapsed, long.sums)

pub returns : goal.returns
returns c =
    let is : good c.args.b ≡ true = sym c.good.ensures ∙ c.if-not-good.false in
    let l = lists_read c.args.lists in
    let lines = some_counted _ _ _ (sym c.in-Some.is ∙ c.lines.ensures.value) in
    label_accepted c.args.b l is c.register_even-even.ensures c.sections_short-short.ensures c.if-even-short.false _ lines.0
    (listing_length c.args.b l (rows_of l.lists) (λ i h. (held_good c.args.b (facts _ is) i h).code_length)
    (λ i h. let row = rows_facts c.args.b.held (line_of l.lists) (rows_of l.lists) lines.0 i h in (row.buyer, row.seller))
    c.head-head.ensures.0 lines.1 c.sections-sections.ensures.0)
