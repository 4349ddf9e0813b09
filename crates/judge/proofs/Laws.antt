-- No two sections have one code where no two keys are equal, and no two notices are of one section at one elevator.
use Rattle.numbers.proofs.Words.{ℕ, ◌+◌, ◌-◌, ◌<◌, arith, ◌≡◌, refl, ap, ap₂, ◌∙◌, Bool, true, ◌&&◌, ◌||◌, List, [], ◌∷◌, map, length, take, take_all, drop, length-drop, leb, ltb, eqb, leb-true, eq-eqb, every, some, apart, big_endian}
use Rattle.std.specs.List.{list_any, list_all}
use Rattle.rules.specs.declared.book.{Section.Section, Notice.Notice}
use Rattle.numbers.proofs.Keys.{two, two_same, apart_keys}
use Rattle.numbers.proofs.Tests.{eqb_sym, both, together}
use Rattle.rules.specs.Book.{section_code_good, section_good, section_codes_alike, notice_good, notices_alike}
use Rattle.book_laws.proofs.Good.{section_facts}
use Rattle.section_code.proofs.Laws.{code_same}

abbrev pub code_key : Section → ℕ
code_key s = big_endian s.code

abbrev pub notice_key : Notice → ℕ
notice_key n = two 32 n.section n.elevator

module _ (trades : ℕ) where
  code_good : (s : Section) → section_good trades s ≡ true → section_code_good s.code ≡ true
  code_good s e =
      let good = section_facts trades s e in
      together (eq-eqb _ _ good.code_length) good.code_bytes

  pub codes_apart : (ss : List Section) → every (section_good trades) ss ≡ true → apart section_codes_alike ss ≡ apart eqb (map code_key ss)
  codes_apart = apart_keys (section_good trades) section_codes_alike code_key (λ s t e f. code_same s.code t.code (code_good s e) (code_good t f))

module _ (held : ℕ) where
  elevator_below : (n : Notice) → notice_good held n ≡ true → n.elevator < 32
  unfolding notice_good
  elevator_below n e = omega (arith, leb-true n.elevator 31 (both (leb n.elevator 31) _ (both (ltb n.section held) _ e).1).0)

  pub notices_apart : (ns : List Notice) → every (notice_good held) ns ≡ true → apart notices_alike ns ≡ apart eqb (map notice_key ns)
  notices_apart = apart_keys (notice_good held) notices_alike notice_key (λ m n e f. two_same 32 m.section n.section m.elevator n.elevator (elevator_below m e) (elevator_below n f))

-- what the library's `any` and `all` answer of a test, in the definitions' words
pub any_some : {A : Type 0} (test : A → Bool) (xs : List A) → list_any test xs ≡ some test xs
unfolding some
any_some test [] = refl
any_some test (x ∷ xs) = ap (λ (t : Bool). test x || t) (any_some test xs)

pub all_every : {A : Type 0} (test : A → Bool) (xs : List A) → list_all test xs ≡ every test xs
unfolding every
all_every test [] = refl
all_every test (x ∷ xs) = ap (λ (t : Bool). test x && t) (all_every test xs)

-- and what its `contains` does of the entries after entry i
contains_some : (n : ℕ) (xs : List ℕ) → list_any (λ (x : ℕ). eqb x n) xs ≡ some (eqb n) xs
unfolding some
contains_some n [] = refl
contains_some n (x ∷ xs) = ap₂ ◌||◌ (eqb_sym x n) (contains_some n xs)

pub later_some : (n i : ℕ) (xs : List ℕ) → list_any (λ (x : ℕ). eqb x n) (take (length xs - (i + 1)) (drop (i + 1) xs)) ≡ some (eqb n) (drop (i + 1) xs)
later_some n i xs = contains_some n _ ∙ ap (some (eqb n)) (take_all (length xs - (i + 1)) (drop (i + 1) xs) (omega (arith, length-drop (i + 1) xs)))
