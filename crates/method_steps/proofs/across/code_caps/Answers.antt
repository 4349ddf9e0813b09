use Rattle.numbers.proofs.Words.{rules, ℕ, arith, ◌≡◌, ap, ◌∙◌, ℤ, w64, to_z, of_z, to_z-of_z, entry_ℤ, listed}
use Rattle.numbers.proofs.Whole.{read_back}
use Rattle.numbers.proofs.Filled.{filled_none, filled_next, filled_end}
use Rattle.method_steps.proofs.across.code_caps.Invariants.{cap_of}
use Rattle.method_steps.proofs.across.code_caps.Goals as goal

pub loop-c-init : goal.loop-c-init
loop-c-init c = filled_none _ _

pub loop-c-preserved : goal.loop-c-preserved
loop-c-preserved c =
    let a = c.args in
    let net = entry_ℤ a.nets.now c.loop-c.c in
    let net_read : to_z w64 (of_z w64 net) ≡ net = read_back w64 _ (search rules) in
    filled_next c.loop-c.invariant (omega arith) _ (c.cap.ensures ∙ ap (cap_of (to_z w64 (of_z w64 a.d))) net_read)

pub returns : goal.returns
returns c =
    let a = c.args in
    filled_end c.loop-c.invariant (omega arith) 64 c.requires.1 ∙ ap (λ (d : ℤ). listed 64 (λ (i : ℕ). cap_of d (entry_ℤ a.nets.now i))) (to_z-of_z c.ranges.d)
