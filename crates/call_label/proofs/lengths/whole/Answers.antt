use Rattle.numbers.proofs.Words.{ℕ, arith, ◌≡◌, sym, ap, ◌∙◌, ◌∷◌, nat_abs, length, ℤ, pos, lt_z, w64, to_z, of_z, to_z-of_z}
use Rattle.numbers.specs.Text.{decimal, signed_decimal}
use Rattle.listing.proofs.Laws.Digits.{below_zero, above_zero}
use Rattle.call_label.proofs.lengths.whole.Goals as goal
use Rattle.call_label.proofs.lengths.whole.Goals.{After-digits-count, Start}

back : (s : Start) → to_z w64 (of_z w64 s.args.z) ≡ s.args.z
back s = to_z-of_z s.ranges.z

-- the digits of its size
counted : (c : After-digits-count) → c.digits-count.result ≡ length (decimal (nat_abs c.args.z))
counted c = c.digits-count.ensures.0 ∙ ap (λ (n : ℕ). length (decimal n)) (c.size-size.ensures ∙ ap nat_abs (back c.before.before))

pub returns-then-z-lt0 : goal.returns-then-z-lt0
returns-then-z-lt0 c =
    let z = c.args.z in
    let text : signed_decimal z ≡ 45 ∷ decimal (nat_abs z) = below_zero z (ap (λ (y : ℤ). lt_z y (pos 0)) (sym (back (goal.at.returns-then-z-lt0 c).Start)) ∙ c.if-z-lt0.true) in
    (omega (arith, counted (goal.at.returns-then-z-lt0 c).After-digits-count, ap length text), omega (arith, c.digits-count.ensures.1))

pub returns : goal.returns
returns c =
    let z = c.args.z in
    let text : signed_decimal z ≡ decimal (nat_abs z) = above_zero z (ap (λ (y : ℤ). lt_z y (pos 0)) (sym (back (goal.at.returns c).Start)) ∙ c.if-z-lt0.false) in
    (omega (arith, counted (goal.at.returns c).After-digits-count, ap length text), omega (arith, c.digits-count.ensures.1))
