use Rattle.numbers.proofs.Words.{rules, ℕ, suc, ◌*◌, ◌^◌, ◌≤◌, ◌<◌, arith, ◌≡◌, refl, sym, ◌∙◌, List, [], ◌∷◌, length, entry, gathered, total}
use Rattle.std.specs.Prelude.{sum}
use Rattle.std.proofs.lemmas.List.Recursion.{is_sum_by}
use Rattle.method_giving.proofs.lists.sum.Goals as goal

-- the sum of the definitions is the library's
total_sum : (xs : List ℕ) → total xs ≡ sum xs
unfolding gathered
total_sum xs = is_sum_by total (λ (x : ℕ). x) refl (λ x ys. refl) xs

-- of small numbers it is small
total_small : (most : ℕ) (xs : List ℕ) → ((i : ℕ) → entry xs i ≤ most) → total xs ≤ most * length xs
unfolding gathered
total_small most [] h = omega arith
total_small most (x ∷ xs) h = omega (arith, h 0, total_small most xs (λ i. h (suc i)))

pub sum-requires-clause-fits : goal.sum-requires-clause-fits
sum-requires-clause-fits c =
    let lots = c.args.lots.now in
    let fits : sum lots < 2 ^ 64 = omega (arith, total_sum lots, total_small 1_000_000_000 lots c.requires.1) in
    search rules

pub returns : goal.returns
returns c =
    let lots = c.args.lots.now in
    let summed : c.sum.result ≡ sum lots = search rules in
    summed ∙ sym (total_sum lots)
