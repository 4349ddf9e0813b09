-- What is terminated stands in a local list on its way.
use Rattle.numbers.proofs.Words.{ℕ, ◌-◌, arith, sym, ap, subst, ◌∙◌, List, length, replicate, map, nat_abs, entry, less, over}
use Rattle.numbers.proofs.Front.{Front, front_of}
use Rattle.numbers.proofs.Ranges.{listed-length}
use Rattle.method_steps.proofs.Laws.{sizes_small, left_small}
use Rattle.method_laws.specs.Columns.{Small}
use Rattle.method_delivery.proofs.write_sections.Goals as goal

abbrev onto : List ℕ → List ℕ → List ℕ
onto was lots = over lots was

pub small_lots-requires : goal.small_lots-requires
small_lots-requires c =
    let a = c.args in
    let front : Front (length a.kept.now) (replicate 128 0) c.terminated.new.out = front_of _ _ _ c.requires.positions_len.2 c.terminated.auto.out in
    let ended_small : Small (less (map nat_abs a.positions.now) a.kept.now) = left_small 1_000_000 (map nat_abs a.positions.now) a.kept.now (sizes_small 1_000_000 a.positions.now c.requires.by_index.0) in
    (omega (arith, front.long, c.requires.room), subst Small (sym (front.is ∙ c.terminated.ensures)) ended_small)

-- what is delivered
pub small_lots-requires-3 : goal.small_lots-requires-3
small_lots-requires-3 c =
    let a = c.args in
    let stayed_small : Small (less a.kept.now a.gone.now) = left_small 1_000_000 a.kept.now a.gone.now c.requires.by_index.1 in
    let is = c.less.ensures in
    (omega (arith, ap length is, listed-length (length a.kept.now) (λ (i : ℕ). entry a.kept.now i - entry a.gone.now i), c.requires.room), subst Small (sym is) stayed_small)

pub returns-clause-lists_after : goal.returns-clause-lists_after
returns-clause-lists_after c =
    let a = c.args in
    let was = a.lists.now in
    let front : Front (length a.kept.now) (replicate 128 0) c.terminated.new.out = front_of _ _ _ c.requires.positions_len.2 c.terminated.auto.out in
    λ k. record {
      buyers = was.buyers.now;
      elevators = was.elevators.now;
      sellers = was.sellers.now;
      lots = was.lots.now;
      delivered = (c.small_lots-3.ensures ∙ ap (onto was.delivered.now) c.less.ensures) k;
      terminated = (c.small_lots.ensures ∙ ap (onto was.terminated.now) (front.is ∙ c.terminated.ensures)) k;
      lapsed = c.small_lots-2.ensures k;
    }
