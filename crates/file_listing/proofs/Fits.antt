-- A listing is no longer than its buffer.
use Rattle.numbers.proofs.Words.{ℕ, ◌≤◌, arith, ◌≡◌, ap, List, length, drop, length-append, over}

pub fits : (printed was : List ℕ) {bytes : List ℕ} {n : ℕ} → n ≡ length printed → bytes ≡ over printed was → n ≤ length bytes
fits printed was long is = omega (arith, long, ap length is, length-append printed (drop (length printed) was))
