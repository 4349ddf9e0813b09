-- A trade's lots as the machine's signed numbers: bought plus, sold minus.
use Rattle.numbers.proofs.Words.{ℕ, ◌≤◌, arith, ◌≡◌, sym, ap, subst, ◌∙◌, ℤ, pos, neg_ℤ, nat_abs, ◌-ℤ◌, +ℤ_idl, w64, SFits, to_z, of_z, to_z-of_z, to_z_pos}
use Rattle.numbers.proofs.Whole.{sfits_size, size, negated}

module _ (lots : ℕ) (most : lots ≤ 10_000) where
  pub bought : to_z w64 lots ≡ pos lots
  bought = to_z_pos w64 (omega arith)

  pub bought_small : nat_abs (to_z w64 lots) ≤ 10_000
  bought_small = subst (λ (z : ℤ). nat_abs z ≤ 10_000) (sym bought) most

  pub sold_size : nat_abs (neg_ℤ (pos lots)) ≤ 10_000
  sold_size = omega (arith, size (neg_ℤ (pos lots)), negated (pos lots))

  nought_less : pos 0 -ℤ to_z w64 lots ≡ neg_ℤ (pos lots)
  nought_less = +ℤ_idl _ ∙ ap neg_ℤ bought

  pub sold_fits : SFits w64 (pos 0 -ℤ to_z w64 lots)
  sold_fits = subst (SFits w64) (sym nought_less) (sfits_size w64 _ (omega (arith, sold_size)))

  pub sold : to_z w64 (of_z w64 (pos 0 -ℤ to_z w64 lots)) ≡ neg_ℤ (pos lots)
  sold = to_z-of_z sold_fits ∙ nought_less

  pub sold_small : nat_abs (to_z w64 (of_z w64 (pos 0 -ℤ to_z w64 lots))) ≤ 10_000
  sold_small = subst (λ (z : ℤ). nat_abs z ≤ 10_000) (sym sold) sold_size
