use Rattle.numbers.proofs.Words.{ℕ, ◌+◌, ◌-◌, ◌<◌, min, arith, ◌≡◌, sym, ap, ◌∙◌, List, length, set, drop, drop_of_length-le, length-set, entry}
use Rattle.rules.specs.declared.book.{Section.Section}
use Rattle.numbers.proofs.Lists.{has, from_here}
use Rattle.numbers.proofs.Entries.{left_set}
use Rattle.method_laws.specs.Columns.{settlements_of}
use Rattle.method_laws.specs.Giving.{taken_from}
use Rattle.method_laws.proofs.Columns.{code_at}
use Rattle.method_giving.proofs.taken.give.Goals as goal
use Rattle.method_giving.proofs.taken.give.Goals.{In-loop-place, Start}

-- one turn of the definition
module _ (ss : List Section) (codes : List ℕ) (is : codes ≡ settlements_of ss) (order lots caps given : List ℕ) (left k amount : ℕ) where
  abbrev now_at : ℕ
  now_at = entry order k

  turn : k < length order → amount ≡ min (entry lots now_at) (min (entry caps (entry codes now_at)) left)
      → taken_from ss (drop k order) lots caps left given
      ≡ taken_from ss (drop (k + 1) order) lots (set caps (entry codes now_at) (entry caps (entry codes now_at) - amount)) (left - amount) (set given now_at amount)
  unfolding taken_from
  turn here e =
      let given_now : ℕ → ℕ → List ℕ = λ c n. taken_from ss (drop (k + 1) order) lots (set caps c (entry caps c - n)) (left - n) (set given now_at n) in
      ap (λ (is : List ℕ). taken_from ss is lots caps left given) (from_here (has order k 0 here))
      ∙ ap (λ (c : ℕ). given_now c (min (entry lots now_at) (min (entry caps c) left))) (sym (code_at ss is now_at))
      ∙ ap (given_now (entry codes now_at)) (sym e)

pub loop-place-preserved : goal.loop-place-preserved
loop-place-preserved c =
    let a = c.args in
    let section : ℕ = entry a.order.now c.loop-place.place-index in
    let place : section < length a.lots.now = c.requires.below.0 c.loop-place.place-index c.loop-place-test.true in
    let gives : c.min-amount.result ≡ min (entry a.lots.now section) (min (entry c.loop-place.caps (entry a.codes.now section)) c.loop-place.left) =
    c.min-amount.ensures ∙ ap (min (entry a.lots.now section)) c.min-within.ensures in (
      omega arith,
      simp length-set c.loop-place.invariant.1,
      left_set a.lots.now c.loop-place.given section c.min-amount.result (omega (arith, place, c.loop-place.invariant.2.long)) (omega (arith, gives)) c.loop-place.invariant.2,
      λ ss is. sym (turn ss a.codes.now is a.order.now a.lots.now c.loop-place.caps c.loop-place.given c.loop-place.left c.loop-place.place-index c.min-amount.result c.loop-place-test.true gives) ∙ c.loop-place.invariant.3 ss is,
    )

pub returns : goal.returns
unfolding taken_from
returns c =
    let a = c.args in record {
      given_after = λ ss is.
          sym (ap (λ (rest : List ℕ). taken_from ss rest a.lots.now c.loop-place.caps c.loop-place.left c.loop-place.given) (drop_of_length-le a.order.now {i = c.loop-place.place-index} (omega arith)))
          ∙ c.loop-place.invariant.3 ss is;
      at_most_2 = c.loop-place.invariant.2.within;
    }
