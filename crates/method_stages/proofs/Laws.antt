-- One pass has no more lines than all of them together, so that its lines find room in a register.
use Rattle.numbers.proofs.Words.{ℕ, ◌+◌, ◌-◌, ◌≤◌, ◌<◌, arith, ◌≡◌, ap, ◌∙◌, List, flat_map, length, length-append, ℤ, listed, less}
use Rattle.numbers.proofs.Lists.{flat_map_last}
use Rattle.rules.specs.declared.book.{Section.Section, Notice.Notice}
use Rattle.rules.specs.Book.{settlement_codes}
use Rattle.rules.specs.Expiry.{Outside.outside, Outside.inside, Drawing.drawn}
use Rattle.rules.specs.Expiry.Passes.{Pass, lines_of, inside_pass, outside_pass}
use Rattle.rules.specs.Expiry.Call.{passes, remaining, lines}
use Rattle.method_register.specs.Passes.{long_lots, in_code, lines_by, Expiring}
use Rattle.method_register.proofs.Laws as register

-- what one number stands for is no more than what all numbers below n do
pub flat_part : {A B : Type 0} (g : A → List B) (f : ℕ → A) (n i : ℕ) → i < n → length (g (f i)) ≤ length (flat_map g (listed n f))
flat_part g f n i h =
    let all : i + 1 + (n - (i + 1)) ≡ n = omega (arith, h) in
    omega (arith, register.flat_next_length g f i, register.flat_within g f (i + 1) (n - (i + 1)), ap (λ (m : ℕ). length (flat_map g (listed m f))) all)

module _ (ss : List Section) (ns : List Notice) where
  abbrev left : List ℕ
  left = remaining ss ns

  abbrev near : List ℕ
  near = inside ss left

  -- the inside pass of a settlement code, and the outside pass (01, Expiry, 6.1)
  abbrev pub inside_of : ℕ → Pass
  inside_of c = inside_pass ss ns near (drawn ss ns near) c

  abbrev pub outside_of : Pass
  outside_of = outside_pass ss (outside ss left) (less (drawn ss ns left) (drawn ss ns near))

  all_lines : length (lines ss ns) ≡ length (flat_map (lines_of ss ns) (listed settlement_codes inside_of)) + length (lines_of ss ns outside_of)
  unfolding passes lines
  all_lines = let within = listed settlement_codes inside_of in ap length (flat_map_last (lines_of ss ns) within outside_of) ∙ length-append (flat_map (lines_of ss ns) within) (lines_of ss ns outside_of)

  -- no pass has more lines than all of them (01, Expiry, 6.1)
  pub inside_lines_lem : (c : ℕ) → c < settlement_codes → length (lines_of ss ns (inside_of c)) ≤ length (lines ss ns)
  inside_lines_lem c h = omega (arith, all_lines, flat_part (lines_of ss ns) inside_of settlement_codes c h)

  pub outside_lines_lem : length (lines_of ss ns outside_of) ≤ length (lines ss ns)
  outside_lines_lem = omega (arith, all_lines)

-- the same by the columns of a book that expires: the lines of one pass find room (01, Expiry, 6.1)
module _ {codes : List ℕ} {positions : List ℤ} {keys sellers stands lots kept near far inner beyond : List ℕ} (e : Expiring codes positions keys sellers stands lots kept) (s : register.Split e.ss e.ns kept near far inner beyond) where
  pub inside_room : (c : ℕ) → c < settlement_codes → length (lines_by keys sellers stands (in_code codes sellers (long_lots positions near) inner c)) ≤ 382
  inside_room c h = omega (arith, register.room e s, flat_part (lines_by keys sellers stands) (in_code codes sellers (long_lots positions near) inner) settlement_codes c h)

  pub outside_room : length (lines_by keys sellers stands (register.outside_of positions far beyond)) ≤ 382
  outside_room = omega (arith, register.room e s)
