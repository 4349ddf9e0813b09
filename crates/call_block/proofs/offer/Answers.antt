use Rattle.numbers.proofs.Words.{◌<◌, arith, ◌∙◌, length}
use Rattle.numbers.proofs.Filled.{filled_length}
use Rattle.book_laws.proofs.Good.{facts}
use Rattle.call_block.proofs.Walk.{walk_start, walk_end, positions, buyer_moves, seller_moves, room, walk_next}
use Rattle.call_block.proofs.offer.Goals as goal

pub loop-i-init : goal.loop-i-init
loop-i-init c = walk_start _ _ _ (facts _ c.requires.0).section_places_lem

pub offered-answer-requires : goal.offered-answer-requires
offered-answer-requires c =
    let is = c.requires.0 in
    ((facts _ is).r.least, positions c.loop-i.invariant is _, positions c.loop-i.invariant is _)

pub value_at-value-requires : goal.value_at-value-requires
value_at-value-requires c = (facts _ c.requires.0).k.most

pub bought-requires : goal.bought-requires
bought-requires c =
    let t = c in
    λ none. buyer_moves c.loop-i.invariant c.requires.0 t.place-to.ensures t.place-from.ensures c.offered-answer.ensures none c.value_at-value.ensures

pub sold-requires : goal.sold-requires
sold-requires c =
    let t = c in
    λ none. seller_moves c.loop-i.invariant c.requires.0 t.place-to.ensures t.place-from.ensures c.offered-answer.ensures none c.value_at-value.ensures

pub counted-trades-requires : goal.counted-trades-requires
counted-trades-requires c =
    let t = c in
    λ none. room c.loop-i.invariant c.requires.0 t.place-to.ensures t.place-from.ensures c.offered-answer.ensures none

pub loop-i-preserved : goal.loop-i-preserved
loop-i-preserved c =
    -- within the loop each list has a trade at this place
    let here : c.loop-i.i < length c.args.answers.now = omega (arith, filled_length c.loop-i.invariant.answers) in
    walk_next c.loop-i.invariant c.requires.0 c.place-to.ensures c.place-from.ensures c.offered-answer.ensures c.value_at-value.ensures c.bought.ensures c.sold.ensures c.counted-trades.ensures c.number_of.ensures here c.requires.1.buyers

pub returns : goal.returns
returns c =
    let end = c in
    let all = walk_end end.loop-i.invariant (omega (arith, filled_length end.loop-i.invariant.answers)) c.requires.1.buyers in
    record { value = c.with_trades.ensures ∙ all.0; answers_after = all.1 }
