use Rattle.numbers.proofs.Words.{ℕ, arith, ◌+◌, ◌<◌, ◌≡◌, ◌∙◌, sym, ap, [], ◌∷◌, length, length-set, ℤ, pos, nat_abs, lt_z, w64, to_z, of_z, to_z-of_z}
use Rattle.numbers.specs.Text.{decimal, signed_decimal}
use Rattle.listing.specs.Columns.{field}
use Rattle.listing.proofs.Laws.Digits.{below_zero, above_zero}
use Rattle.listing.proofs.Laws.Laid.{laid_then, laid_byte}
use Rattle.listing.proofs.text.whole.Goals as goal

pub number-requires : goal.number-requires
number-requires c =
    let back : to_z w64 (of_z w64 c.args.z) ≡ c.args.z = to_z-of_z c.ranges.z in
    let size_is : nat_abs c.args.z ≡ c.size-size.result = sym (c.size-size.ensures ∙ ap nat_abs back) in
    let below : signed_decimal c.args.z ≡ 45 ∷ decimal c.size-size.result =
    below_zero _ (ap (λ (z : ℤ). lt_z z (pos 0)) (sym back) ∙ c.if-z-lt0.true) ∙ ap (λ (n : ℕ). 45 ∷ decimal n) size_is in
    simp length-set (omega (arith, rw below at c.requires))

pub returns-then-z-lt0 : goal.returns-then-z-lt0
returns-then-z-lt0 c =
    let back : to_z w64 (of_z w64 c.args.z) ≡ c.args.z = to_z-of_z c.ranges.z in
    let size_is : nat_abs c.args.z ≡ c.size-size.result = sym (c.size-size.ensures ∙ ap nat_abs back) in
    let below : signed_decimal c.args.z ≡ 45 ∷ decimal c.size-size.result =
    below_zero _ (ap (λ (z : ℤ). lt_z z (pos 0)) (sym back) ∙ c.if-z-lt0.true) ∙ ap (λ (n : ℕ). 45 ∷ decimal n) size_is in
    let room : c.args.at + 1 + length (decimal c.size-size.result) < length c.args.out.now = omega (arith, rw below at c.requires) in
    rw below
    (laid_then (45 ∷ []) (field (decimal _) c.args.end) (laid_byte c.args.out.now c.args.at 45 (omega arith)) (omega arith) c.number.ensures)

pub number-requires-2 : goal.number-requires-2
number-requires-2 c =
    let back : to_z w64 (of_z w64 c.args.z) ≡ c.args.z = to_z-of_z c.ranges.z in
    let size_is : nat_abs c.args.z ≡ c.size-size.result = sym (c.size-size.ensures ∙ ap nat_abs back) in
    let above : signed_decimal c.args.z ≡ decimal c.size-size.result =
    above_zero _ (ap (λ (z : ℤ). lt_z z (pos 0)) (sym back) ∙ c.if-z-lt0.false) ∙ ap decimal size_is in
    rw above at c.requires

pub returns : goal.returns
returns c =
    let back : to_z w64 (of_z w64 c.args.z) ≡ c.args.z = to_z-of_z c.ranges.z in
    let size_is : nat_abs c.args.z ≡ c.size-size.result = sym (c.size-size.ensures ∙ ap nat_abs back) in
    let above : signed_decimal c.args.z ≡ decimal c.size-size.result =
    above_zero _ (ap (λ (z : ℤ). lt_z z (pos 0)) (sym back) ∙ c.if-z-lt0.false) ∙ ap decimal size_is in
    rw above c.number-2.ensures
