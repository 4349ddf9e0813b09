-- The calls' `ensures`, one after the other; where there is nothing to buy the pass forms nothing.
use Rattle.numbers.proofs.Words.{ℕ, ◌≤◌, arith, ◌≡◌, sym, ap, subst, ◌∙◌, List, ◌++◌, append-nil, length, take, drop, replicate, eqb, entry, total}
use Rattle.numbers.proofs.Front.{Front, front_of}
use Rattle.numbers.proofs.Ranges.{listed_under}
use Rattle.rules.specs.Expiry.Passes.{Line}
use Rattle.method_laws.specs.Columns.{by_key}
use Rattle.method_passes.specs.Formed.{lines_in, Sold}
use Rattle.method_passes.proofs.Stages.{nothing_paired, nothing_lined}
use Rattle.method_register.specs.Passes.{lots_in_code, drawn_in_code}
use Rattle.method_register.proofs.Laws.{sold_less}
use Rattle.method_register.proofs.passes.inside_pass.Goals as goal

pub sum-wanted-requires : goal.sum-wanted-requires
sum-wanted-requires c =
    let a = c.args in
    let few : length a.buyers.now ≤ 128 = omega (arith, c.requires.read.0.few, c.requires.read.0.buyers_long) in
    -- what the pass buys
    let front : Front (length a.buyers.now) (replicate 128 0) c.lots_in_code.new.out = front_of _ _ _ few c.lots_in_code.auto.out in
    let bought : take (length a.buyers.now) (c.lots_in_code.new.out ++ drop (length a.buyers.now) (replicate 128 0)) ≡ lots_in_code a.columns.codes.now a.buyers.now a.c = front.is ∙ c.lots_in_code.ensures in (
      omega (arith, front.long, few),
      λ i.
          omega (
            arith,
            ap (λ (xs : List ℕ). entry xs i) bought,
            listed_under (length a.buyers.now) (λ (j : ℕ). eqb (entry a.columns.codes.now j) a.c) (entry a.buyers.now) i,
            c.requires.read.0.buyers_small i,
          ),
    )

-- nothing is bought
pub returns-then-wanted-eq0 : goal.returns-then-wanted-eq0
returns-then-wanted-eq0 c =
    let a = c.args in
    let few : length a.buyers.now ≤ 128 = omega (arith, c.requires.read.0.few, c.requires.read.0.buyers_long) in
    let front : Front (length a.buyers.now) (replicate 128 0) c.lots_in_code.new.out = front_of _ _ _ few c.lots_in_code.auto.out in
    let bought : take (length a.buyers.now) (c.lots_in_code.new.out ++ drop (length a.buyers.now) (replicate 128 0)) ≡ lots_in_code a.columns.codes.now a.buyers.now a.c = front.is ∙ c.lots_in_code.ensures in
    let lower = by_key a.columns.keys.now in
    let buyers = lots_in_code a.columns.codes.now a.buyers.now a.c in
    let taken = drawn_in_code a.columns.codes.now a.drawn.sellers.now a.drawn.lots.now a.c in
    let none : total buyers ≡ 0 = omega (arith, ap total bought, c.sum-wanted.ensures, c.if-wanted-eq0.true) in
    record {
      register_value = sym (append-nil _) ∙ ap (λ (ls : List Line). lines_in a.before.register ++ ls) (sym (nothing_lined lower a.drawn.sellers.now a.drawn.stands.now buyers taken none));
      pairs_value = omega (arith, ap length (nothing_paired lower a.drawn.sellers.now a.drawn.stands.now buyers taken none));
    }

pub run-requires-clause-sold : goal.run-requires-clause-sold
run-requires-clause-sold c =
    let a = c.args in
    let read = c.requires.read.0 in
    let few : length a.drawn.lots.now ≤ 256 = omega (arith, read.sold.notices.few, read.sold.notices.long) in
    -- what is drawn for what the pass buys
    let front : Front (length a.drawn.lots.now) (replicate 256 0) c.drawn_in_code.new.out = front_of _ _ _ few c.drawn_in_code.auto.out in
    let sold : take (length a.drawn.lots.now) (c.drawn_in_code.new.out ++ drop (length a.drawn.lots.now) (replicate 256 0)) ≡ drawn_in_code a.columns.codes.now a.drawn.sellers.now a.drawn.lots.now a.c = front.is ∙ c.drawn_in_code.ensures in
    subst (λ (xs : List ℕ). Sold a.drawn.sellers.now a.drawn.stands.now xs (length a.columns.keys.now)) (sym sold) (sold_less read.sold (λ (k : ℕ). eqb (entry a.columns.codes.now (entry a.drawn.sellers.now k)) a.c))
