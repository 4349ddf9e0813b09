-- Giving as the code does it: one section after the other. What the definitions say of it is proved equal in proofs/Shares.
use Rattle.std.specs.Prelude.{ℕ, ◌-◌, min, Bool, cond, List, [], ◌∷◌, ltb, length, set, replicate, ℤ, nat_abs}
use Rattle.rules.specs.Words.{counted, listed, entry, entry_ℤ, ordered}
use Rattle.rules.specs.declared.book.{Section.Section}
use Rattle.rules.specs.Book.{settlement_codes, position_of, section_of}
use Rattle.rules.specs.Expiry.{opposed, agreed, chosen, earlier, shares_in_codes}
use Rattle.rules.specs.Expiry.Across.{code_cap}

-- the smaller first, or the larger
abbrev pub sooner : Bool → ℕ → ℕ → Bool
sooner larger = cond larger (λ (x y : ℕ). ltb y x) ltb

-- on the same side, or on opposite ones
abbrev pub on_side : Bool → ℤ → ℤ → Bool
on_side same = cond same agreed opposed

-- the numbers of all sections in an order
unfoldable pub in_order : (ℕ → ℕ → Bool) → (ℕ → ℕ → Bool) → List ℕ → ℕ → List ℕ
in_order sooner lower lots n = ordered (earlier sooner lower lots) (counted 0 n)

-- sections in an order give what they have, while their code's cap and the whole need last; `done` is what was given before
unfoldable pub taken_from : List Section → List ℕ → List ℕ → List ℕ → ℕ → List ℕ → List ℕ
taken_from ss [] lots caps need done = done
taken_from ss (i ∷ is) lots caps need done =
    let c = (section_of ss i).settlement in
    let amount = min (entry lots i) (min (entry caps c) need) in
    taken_from ss is lots (set caps c (entry caps c - amount)) (need - amount) (set done i amount)

unfoldable pub taken : List Section → List ℕ → List ℕ → List ℕ → ℕ → List ℕ
taken ss order lots caps need = taken_from ss order lots caps need (replicate (length ss) 0)

-- every settlement code wants the size of a number: towards D(c) from the sections on its other side, the smallest first, and outside from those on its side, the largest first
abbrev pub given_by_size : Bool → List Section → List ℤ → List ℕ → List ℕ
given_by_size outside ss numbers lots =
    shares_in_codes (sooner outside) ss (chosen ss (λ (s : Section). on_side outside (position_of s) (entry_ℤ numbers s.settlement)) lots) (λ (c : ℕ). nat_abs (entry_ℤ numbers c))

-- the caps of all settlement codes, in step 3
abbrev pub code_caps : List Section → ℤ → List ℕ → List ℕ
code_caps ss d left = listed settlement_codes (code_cap ss d left)

-- every definition above, unfolded at once
unfoldable pub computed : Unit {0}
unfolding in_order taken_from taken
computed = tt
