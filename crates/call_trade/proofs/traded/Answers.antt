use Rattle.numbers.proofs.Words.{◌<◌, arith, ◌≡◌, ap, ◌∙◌, pos, neg_ℤ}
use Rattle.rules.specs.declared.units.{Kopecks.Kopecks}
use Rattle.rules.specs.Book.{section_at, value_at}
use Rattle.rules.specs.Calls.{moved, traded}
use Rattle.book_laws.proofs.Accepted.{NewTrade, trade}
use Rattle.book_laws.proofs.Good.{Good}
use Rattle.call_trade.proofs.Laws.{movable}
use Rattle.call_trade.proofs.traded.Goals as goal
use Rattle.call_trade.proofs.traded.Goals.{After-bought-buying, After-sold-selling, Start}

accepted : (c : Start) → NewTrade c.args.b c.args.buyer c.args.seller c.args.price c.args.lots
accepted c = trade _ _ _ _ _ c.requires

book : (c : Start) → Good c.args.b
book c = (accepted c).party.book

buyer_place : (c : Start) → c.args.buyer < 128
buyer_place c = omega (arith, (accepted c).party.buyer_known, (book c).held)

seller_place : (c : Start) → c.args.seller < 128
seller_place c = omega (arith, (accepted c).party.seller_known, (book c).held)

buying : (c : After-bought-buying) → c.bought-buying.result ≡ moved (section_at c.args.b c.args.buyer) (record { 0 = pos c.args.lots }) (value_at c.args.b c.args.price)
buying c =
    c.bought-buying.ensures
    ∙ ap (λ (v : Kopecks). moved (section_at c.args.b c.args.buyer) (record { 0 = pos c.args.lots }) v) c.value_at-value.ensures

selling : (c : After-sold-selling) → c.sold-selling.result ≡ moved (section_at c.args.b c.args.seller) (record { 0 = neg_ℤ (pos c.args.lots) }) (value_at c.args.b c.args.price)
selling c =
    c.sold-selling.ensures
    ∙ ap (λ (v : Kopecks). moved (section_at c.args.b c.args.seller) (record { 0 = neg_ℤ (pos c.args.lots) }) v) c.value_at-value.ensures

pub value_at-value-requires : goal.value_at-value-requires
value_at-value-requires c = (book c).k.most

pub bounds-b-to : goal.bounds-b-to
bounds-b-to c = buyer_place (goal.at.bounds-b-to c).Start

pub bounds-b-from : goal.bounds-b-from
bounds-b-from c = seller_place (goal.at.bounds-b-from c).Start

pub bought-buying-requires : goal.bought-buying-requires
bought-buying-requires c = λ none. movable (accepted (goal.at.bought-buying-requires c).Start) c.value_at-value.ensures _ (accepted (goal.at.bought-buying-requires c).Start).party.buyer_known

pub sold-selling-requires : goal.sold-selling-requires
sold-selling-requires c = λ none. movable (accepted (goal.at.sold-selling-requires c).Start) c.value_at-value.ensures _ (accepted (goal.at.sold-selling-requires c).Start).party.seller_known

pub bounds-next-to : goal.bounds-next-to
bounds-next-to c = buyer_place (goal.at.bounds-next-to c).Start

pub bounds-next-from : goal.bounds-next-from
bounds-next-from c = seller_place (goal.at.bounds-next-from c).Start

pub overflow_add-next : goal.overflow_add-next
overflow_add-next c = omega (arith, (accepted (goal.at.overflow_add-next c).Start).room.trades)

pub returns : goal.returns
unfolding traded
returns c = rw (buying (goal.at.returns c).After-bought-buying, selling c)
