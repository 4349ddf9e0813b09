-- The calls' `ensures`, one after the other.
use Rattle.numbers.proofs.Words.{ℕ, arith, ◌≡◌, sym, ap, ◌∙◌, Bool, length, List}
use Rattle.rules.specs.Expiry.Passes.{Pair}
use Rattle.method_laws.specs.Columns.{by_key}
use Rattle.method_passes.specs.Formed.{pairs_in, pairs_from, pass_pairs, Known, lines_from}
use Rattle.method_passes.proofs.Stages.{pass_known_lem}
use Rattle.method_stages.proofs.one_pass.stages.Goals as goal
use Rattle.method_stages.proofs.one_pass.stages.Goals.{After-pairs_of-pairs}

module _ (c : After-pairs_of-pairs) where
  abbrev lower : ℕ → ℕ → Bool
  lower = by_key (c.args.keys.now)

  -- the pairs of what the elevators have
  paired : pairs_in c.pairs_of-pairs.result ≡ pairs_from lower (c.args.buyers.now) c.elevator_lots.new.out
  paired = c.pairs_of-pairs.ensures

  -- they are those of the pass
  formed : pairs_in c.pairs_of-pairs.result ≡ pass_pairs lower (c.args.stands.now) (c.args.buyers.now) (c.args.drawn.now)
  formed = paired ∙ ap (pairs_from lower (c.args.buyers.now)) c.elevator_lots.ensures

  known : Known (pairs_in c.pairs_of-pairs.result) (length (c.args.keys.now))
  known =
      let a = c.args in
      let long = c.requires.keys_len_bound.1 in
      rw (formed, sym long) (pass_known_lem lower (a.stands.now) (a.buyers.now) (a.drawn.now) (omega (arith, c.requires.keys_len_bound.0, long)))

pub lines_of-lines-requires : goal.lines_of-lines-requires
lines_of-lines-requires c =
    let at = (goal.at.lines_of-lines-requires c).After-pairs_of-pairs in
    record { known = (known at, c.requires.sold); drawn_len_bound = rw (formed at) c.requires.drawn_len_bound }

pub returns : goal.returns
returns c =
    let at = (goal.at.returns c).After-pairs_of-pairs in record {
      stocks_value = c.elevator_lots.ensures;
      pairs_value = formed at;
      lines_value = c.lines_of-lines.ensures ∙ ap (λ (qs : List Pair). lines_from (lower at) (c.args.sellers.now) (c.args.stands.now) qs (c.args.drawn.now)) (formed at);
    }
