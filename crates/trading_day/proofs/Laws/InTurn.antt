-- Closed dates tested one after the other: each is allowed and above the one before it.
use Rattle.numbers.proofs.Words.{ℕ, ◌+◌, ◌/◌, ◌≤◌, ◌<◌, arith, ◌≡◌, refl, Bool, true, false, ◌&&◌, true≢false, List, [], ◌∷◌, length, drop, drop_of_length-le, ltb, leb, leb-true, lt-ltb, ◌and◌, every, ascending}
use Rattle.numbers.proofs.Tests.{both}
use Rattle.numbers.proofs.Lists.{Has, from_here}
use Rattle.rules.specs.Calendar.{dated}
use Rattle.rules.specs.LastTradingDay.{date_of_number, closed_good}

-- what is left of the test after a date
abbrev pub in_turn : ℕ → List ℕ → Bool
in_turn last xs = every closed_good xs and ascending (last ∷ xs)

-- no closed date that is allowed is 0
good_above : (n : ℕ) → closed_good n ≡ true → 0 < n
unfolding closed_good date_of_number
good_above n h =
    let years = both (leb 2021 (n / 10_000)) (leb (n / 10_000) 2051) (both _ (dated (date_of_number n)) h).0 in
    omega (arith, leb-true 2021 (n / 10_000) years.0)

pub turn_start : (xs : List ℕ) → in_turn 0 xs ≡ (every closed_good xs and ascending xs)
unfolding every ascending
turn_start [] = refl
turn_start (x ∷ xs) = go (closed_good x) refl
  where
    go : (t : Bool) → closed_good x ≡ t → ((t && every closed_good xs) && (ltb 0 x && ascending (x ∷ xs))) ≡ ((t && every closed_good xs) && ascending (x ∷ xs))
    go true e = rw (lt-ltb 0 x (good_above x e))
    go false e = refl

module _ {xs : List ℕ} {i x : ℕ} (here : Has xs i x) (last : ℕ) where
  pub turn_next : ltb last x ≡ true → closed_good x ≡ true → in_turn last (drop i xs) ≡ in_turn x (drop (i + 1) xs)
  unfolding every ascending
  turn_next above allowed = rw (from_here here, above, allowed)

  pub turn_stop : (ltb last x && closed_good x) ≡ false → in_turn last (drop i xs) ≡ false
  unfolding every ascending
  turn_stop h = rw (from_here here) (stopped (ltb last x) (closed_good x) (every closed_good (drop (i + 1) xs)) (ascending (x ∷ drop (i + 1) xs)) h)
    where
      stopped : (a b e s : Bool) → (a && b) ≡ false → ((b && e) && (a && s)) ≡ false
      stopped true true e s h = absurd (true≢false h)
      stopped true false e s h = refl
      stopped false true true s h = refl
      stopped false true false s h = refl
      stopped false false e s h = refl

pub turn_end : (xs : List ℕ) (i last : ℕ) → length xs ≤ i → in_turn last (drop i xs) ≡ true
unfolding every ascending
turn_end xs i last past = rw (drop_of_length-le xs past)
