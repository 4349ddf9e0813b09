use Rattle.numbers.proofs.Words.{◌≤◌, arith, ◌≡◌, sym, ap, ◌∙◌, eqb, length, apart, rules}
use Rattle.numbers.proofs.Keys.{walked_stop, walked_next, walked_all, walked_keys}
use Rattle.numbers.proofs.Lists.{length_mapped, Has}
use Rattle.rules.specs.Book.{filed_notices, notice_at, notices_good}
use Rattle.book_laws.proofs.Held.{filed_length, has_notice}
use Rattle.judge.proofs.Laws.{notices_apart}
use Rattle.judge.proofs.notices.notices_good.Goals as goal
use Rattle.judge.proofs.notices.notices_good.Goals.{In-loop-i, Start}

places : (c : Start) → length c.args.b.notices ≡ 256
places c = search (rules, length_mapped)

here : (c : In-loop-i) → Has (filed_notices c.args.b) c.loop-i.i (notice_at c.args.b c.loop-i.i)
here c = has_notice c.args.b (places c.before.before) (search rules) c.loop-i.i c.loop-i-test.true

count : (c : Start) → length (filed_notices c.args.b) ≡ c.args.b.filed
count c = filed_length c.args.b (places c) (search rules)

pub returns-then-not-notice_good : goal.returns-then-not-notice_good
unfolding notices_good
returns-then-not-notice_good c = simp (walked_stop c.loop-i.invariant (here c.before.before.before) (sym c.notice_good.ensures ∙ c.if-not-notice_good.true))

pub loop-i-preserved : goal.loop-i-preserved
loop-i-preserved c =
    let inside = c in
    walked_next inside.loop-i.invariant (here inside.before.before.before.before) (sym c.notice_good.ensures ∙ c.if-not-notice_good.false) (search rules) c.key.result c.key.ensures

pub returns : goal.returns
unfolding notices_good
returns c =
    let at = c in
    let b = at.args.b in
    let past : length (filed_notices b) ≤ at.loop-i.i = omega (arith, count at.before.before.before.before, c.loop-i-test.false) in
    let all = walked_all at.loop-i.invariant past in
    simp all (c.apart.ensures ∙ ap (apart eqb) (walked_keys at.loop-i.invariant past b.filed (count at.before.before.before.before)) ∙ sym (notices_apart b.held (filed_notices b) all))
