-- What the steps' calls need of one another: an order holds numbers of sections, and the front of a local list is what a call left there.
use Rattle.numbers.proofs.Words.{ℕ, ◌-◌, ◌≤◌, ◌<◌, arith, ◌≡◌, ap, ◌∙◌, Bool, List, map, length, replicate, get_or-map, ℤ, pos, nat_abs, counted, entry, entry_ℤ, less, ordered}
use Rattle.numbers.proofs.Ranges.{less_at}
use Rattle.rules.specs.Expiry.{earlier}
use Rattle.method_laws.specs.Giving.{in_order}
use Rattle.method_order.proofs.Laws.{ordered_below}

-- the local lists, as they are at first
abbrev pub noughts : List ℕ
noughts = replicate 128 0

-- an order of n sections has their numbers
pub order_below : (sooner lower : ℕ → ℕ → Bool) (lots order : List ℕ) (n : ℕ) → order ≡ in_order sooner lower lots n → length order ≡ n → (k : ℕ) → k < length order → entry order k < n
unfolding in_order
order_below sooner lower lots order n is long k h =
    let comes = earlier sooner lower lots in
    let places : n ≡ length order - 0 = omega (arith, long) in
    omega (arith, long, ordered_below comes order 0 (is ∙ ap (λ (m : ℕ). ordered comes (counted 0 m)) places) (omega arith) k (omega arith) h)

-- the sizes of small whole numbers
pub sizes_small : (limit : ℕ) (zs : List ℤ) → ((c : ℕ) → nat_abs (entry_ℤ zs c) ≤ limit) → (i : ℕ) → entry (map nat_abs zs) i ≤ limit
sizes_small limit zs h i = omega (arith, get_or-map nat_abs zs i (pos 0), h i)

-- what is left of small lots
pub left_small : (limit : ℕ) (xs ys : List ℕ) → ((i : ℕ) → entry xs i ≤ limit) → (i : ℕ) → entry (less xs ys) i ≤ limit
left_small limit xs ys h i = omega (arith, less_at xs ys i, h i)
