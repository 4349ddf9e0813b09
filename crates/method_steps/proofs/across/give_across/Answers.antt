-- The calls' `ensures`, one after the other.
use Rattle.numbers.proofs.Words.{ℕ, arith, ◌≡◌, ap, ap₂, ◌∙◌, cond, List, ltb, length, ℤ, pos, nat_abs, to_z-of_z, entry_ℤ, listed}
use Rattle.numbers.proofs.Front.{Front, front_of}
use Rattle.rules.specs.declared.book.{Section.Section}
use Rattle.numbers.proofs.Ranges.{listed_at, listed_same}
use Rattle.rules.specs.Book.{position_of}
use Rattle.rules.specs.Expiry.{opposed, net_of_code, chosen, lower_section_code}
use Rattle.rules.specs.Expiry.Across.{code_cap}
use Rattle.method_laws.specs.Giving.{in_order, taken, code_caps}
use Rattle.method_laws.proofs.Shares.{taken_across}
use Rattle.method_laws.proofs.Columns.{told, code_at, codes_long}
use Rattle.method_steps.proofs.Laws.{noughts}
use Rattle.method_steps.proofs.across.give_across.Goals as goal

abbrev cap_of : ℤ → ℤ → ℕ
cap_of d net = cond (opposed net d) (nat_abs net) 0

-- the caps by the nets that the second call leaves
caps_are : (ss : List Section) (left : List ℕ) (d : ℤ) → listed 64 (λ (i : ℕ). cap_of d (entry_ℤ (listed 64 (net_of_code ss left)) i)) ≡ code_caps ss d left
unfolding code_cap
caps_are ss left d = listed_same 64 _ _ (λ i h. ap (cap_of d) (listed_at 64 (net_of_code ss left) i (pos 0) h))

pub returns : goal.returns
returns c = λ ss columns.
    let a = c.args in
    let left = a.left.now in
    let lots = c.opposed_to.new.out in
    let front : Front (length left) noughts lots = front_of (length left) noughts lots c.requires.0.few c.opposed_to.auto.out in
    let give : List ℕ → List ℕ → ℕ → List ℕ = λ (lots caps : List ℕ) (need : ℕ). taken ss (in_order ltb (lower_section_code ss) lots (length ss)) lots caps need in
    let lots_are = c.opposed_to.ensures ss columns.positions_are ∙ ap (λ (d : ℤ). chosen ss (λ (s : Section). opposed (position_of s) d) left) (to_z-of_z c.ranges.d) in
    let capped =
    c.code_caps.ensures
    ∙ ap₂ (λ (nets : List ℤ) (d : ℤ). listed 64 (λ (i : ℕ). cap_of d (entry_ℤ nets i))) (c.nets.ensures.out_after ss columns.codes_are columns.positions_are) (to_z-of_z c.ranges.d)
    ∙ caps_are ss left a.d in
    c.give.ensures.given_after ss columns
    ∙ ap₂ (λ (lots caps : List ℕ). give lots caps c.unsigned_abs-need.result) (front.is ∙ lots_are) capped
    ∙ ap (give _ _) (c.unsigned_abs-need.ensures.value ∙ ap nat_abs (to_z-of_z c.ranges.d))
    ∙ taken_across ss (told ss a.columns.codes.now a.columns.positions.now a.columns.keys.now columns)
    (λ i h. omega (arith, code_at ss columns.codes_are i, c.requires.0.code i (omega (arith, h, codes_long ss columns.codes_are))))
    a.d left
