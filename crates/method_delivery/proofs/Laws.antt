-- The columns of a register's lines.
use Rattle.numbers.proofs.Words.{ℕ, ◌≤◌, ◌≡◌, sym, ◌∙◌, List, length, length-take-le, take, get_or-take, map-map, counted, entry, listed}
use Rattle.numbers.proofs.Ranges.{listed_known}
use Rattle.rules.specs.Expiry.Passes.{Line, buyers_of, elevators_of, sellers_of, lots_of}
use Rattle.method_passes.specs.declared.register.{Register.Register}
use Rattle.method_passes.specs.Formed.{line_in, lines_in}

-- the first entries of a list
front : (xs : List ℕ) (n : ℕ) → n ≤ length xs → take n xs ≡ listed n (entry xs)
front xs n h = listed_known n (take n xs) 0 (entry xs) (length-take-le n xs h) (λ i l. get_or-take n xs i 0 l)

-- the columns of a register's lines (01, Expiry call, 2)
module _ (g : Register) where
  pub buyers_in : g.count ≤ length g.buyers → take g.count g.buyers ≡ buyers_of (lines_in g)
  buyers_in h = front g.buyers g.count h ∙ sym (map-map (λ (l : Line). l.buyer) (line_in g) (counted 0 g.count))

  pub elevators_in_lem : g.count ≤ length g.elevators → take g.count g.elevators ≡ elevators_of (lines_in g)
  elevators_in_lem h = front g.elevators g.count h ∙ sym (map-map (λ (l : Line). l.elevator) (line_in g) (counted 0 g.count))

  pub sellers_in_lem : g.count ≤ length g.sellers → take g.count g.sellers ≡ sellers_of (lines_in g)
  sellers_in_lem h = front g.sellers g.count h ∙ sym (map-map (λ (l : Line). l.seller) (line_in g) (counted 0 g.count))

  pub lots_in_lem : g.count ≤ length g.lots → take g.count g.lots ≡ lots_of (lines_in g)
  lots_in_lem h = front g.lots g.count h ∙ sym (map-map (λ (l : Line). l.lots) (line_in g) (counted 0 g.count))
