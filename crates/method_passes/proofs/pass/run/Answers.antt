-- What is formed is put together from what the two stages form.
use Rattle.numbers.proofs.Words.{arith, sym, ap, ◌∙◌, length, ℕ, ◌≡◌, ◌+◌}
use Rattle.method_laws.specs.Columns.{by_key}
use Rattle.method_passes.specs.Formed.{pairs_in, pairs_from, pass_pairs, Known}
use Rattle.method_passes.proofs.Arrays.{pairs_count}
use Rattle.method_passes.proofs.Stages.{pass_known_lem}
use Rattle.method_passes.proofs.pass.run.Goals as goal

pub form_lines-after-requires-clause-known : goal.form_lines-after-requires-clause-known
form_lines-after-requires-clause-known c =
    let a = c.args in
    -- the pairs of the pass
    let formed : pairs_in c.form_pairs-ps.result ≡ pass_pairs (by_key a.keys.now) a.stands.now a.buyers.now a.drawn.now =
    c.form_pairs-ps.ensures ∙ ap (pairs_from (by_key a.keys.now) a.buyers.now) c.elevator_lots.ensures in
    let known : Known (pairs_in c.form_pairs-ps.result) (length a.keys.now) =
    rw (formed, sym c.requires.keys_len_bound.1) (pass_known_lem (by_key a.keys.now) a.stands.now a.buyers.now a.drawn.now (omega arith)) in
    (known, c.requires.sold)

pub overflow_add-all : goal.overflow_add-all
overflow_add-all c =
    let a = c.args in
    let formed : pairs_in c.form_pairs-ps.result ≡ pass_pairs (by_key a.keys.now) a.stands.now a.buyers.now a.drawn.now =
    c.form_pairs-ps.ensures ∙ ap (pairs_from (by_key a.keys.now) a.buyers.now) c.elevator_lots.ensures in
    let known : Known (pairs_in c.form_pairs-ps.result) (length a.keys.now) =
    rw (formed, sym c.requires.keys_len_bound.1) (pass_known_lem (by_key a.keys.now) a.stands.now a.buyers.now a.drawn.now (omega arith)) in
    omega (arith, c.requires.keys_len_bound.2, pairs_count c.form_pairs-ps.result, known.few)

pub returns-clause-pairs_value : goal.returns-clause-pairs_value
returns-clause-pairs_value c =
    let a = c.args in
    let formed : pairs_in c.form_pairs-ps.result ≡ pass_pairs (by_key a.keys.now) a.stands.now a.buyers.now a.drawn.now =
    c.form_pairs-ps.ensures ∙ ap (pairs_from (by_key a.keys.now) a.buyers.now) c.elevator_lots.ensures in
    ap (λ (n : ℕ). a.before.pairs + n) (sym (pairs_count c.form_pairs-ps.result) ∙ ap length formed)
