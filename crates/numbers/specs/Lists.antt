-- Tests, one after the other and over the entries of a list; the entries of a list by number; lists in an order.
use Rattle.std.specs.Prelude.{ℕ, zero, suc, ◌+◌, ◌-◌, Bool, true, false, not, cond, ◌&&◌, ◌||◌, ltb, eqb, get_or, length, take, drop, ℤ, pos, List, [], ◌∷◌, ◌++◌, map}

-- both tests pass; it binds closer than `||`
infixr 33 ◌and◌
abbrev pub ◌and◌ : Bool → Bool → Bool
a and b = a && b

-- every entry passes the test
unfoldable pub every : {A : Type 0} → (A → Bool) → List A → Bool
every test [] = true
every test (x ∷ xs) = test x && every test xs

-- some entry passes the test
unfoldable pub some : {A : Type 0} → (A → Bool) → List A → Bool
some test [] = false
some test (x ∷ xs) = test x || some test xs

-- the entries that pass the test, in their order
unfoldable pub passing : {A : Type 0} → (A → Bool) → List A → List A
passing test [] = []
passing test (x ∷ xs) = cond (test x) (x ∷ passing test xs) (passing test xs)

-- no two entries are alike
unfoldable pub apart : {A : Type 0} → (A → A → Bool) → List A → Bool
apart alike [] = true
apart alike (x ∷ xs) = not (some (alike x) xs) && apart alike xs

-- every entry has the property
unfoldable pub Every : {A : Type 0} → (A → Type 0) → List A → Type 0
Every P [] = Unit {0}
Every P (x ∷ xs) = P x × Every P xs

-- each number is below the next one
unfoldable pub ascending : List ℕ → Bool
ascending [] = true
ascending (n ∷ []) = true
ascending (n ∷ next ∷ ns) = ltb n next && ascending (next ∷ ns)

-- the numbers from `first` on, n of them
unfoldable pub counted : ℕ → ℕ → List ℕ
counted first zero = []
counted first (suc n) = first ∷ counted (suc first) n

-- the list of n entries whose entry i is f i
abbrev pub listed : {A : Type 0} → ℕ → (ℕ → A) → List A
listed n f = map f (counted 0 n)

-- entry i of a list, 0 past its end
abbrev pub entry : List ℕ → ℕ → ℕ
entry xs i = get_or xs i 0

abbrev pub entry_ℤ : List ℤ → ℕ → ℤ
entry_ℤ xs i = get_or xs i (pos 0)

-- what is left of each entry when some of it is taken
abbrev pub less : List ℕ → List ℕ → List ℕ
less xs taken = listed (length xs) (λ (i : ℕ). entry xs i - entry taken i)

-- a list has fewer than n entries
abbrev pub shorter : {A : Type 0} → ℕ → List A → Bool
shorter n xs = ltb (length xs) n

-- a list with entries written over its first ones; later entries remain
abbrev pub over : {A : Type 0} → List A → List A → List A
over written list = written ++ drop (length written) list

-- a list with entries written from a place on; all others remain
unfoldable pub put : List ℕ → ℕ → List ℕ → List ℕ
put list at written = take at list ++ written ++ drop (at + length written) list

-- the numbers of a list in an order: each one stands before those that it comes before
unfoldable pub placed : (ℕ → ℕ → Bool) → ℕ → List ℕ → List ℕ
placed earlier i [] = i ∷ []
placed earlier i (j ∷ js) = elim (earlier i j) [ true ↦ i ∷ j ∷ js | false ↦ j ∷ placed earlier i js ]

unfoldable pub ordered : (ℕ → ℕ → Bool) → List ℕ → List ℕ
ordered earlier [] = []
ordered earlier (i ∷ is) = placed earlier i (ordered earlier is)

-- the place of the largest entry of a list, among equal ones the place that comes earlier: `best` so far, `i` the next place
unfoldable pub largest_from : (ℕ → ℕ → Bool) → List ℕ → ℕ → ℕ → List ℕ → ℕ
largest_from earlier all best i [] = best
largest_from earlier all best i (x ∷ xs) =
    largest_from earlier all (cond (ltb (get_or all best 0) x || eqb (get_or all best 0) x && earlier i best) i best) (suc i) xs

unfoldable pub largest : (ℕ → ℕ → Bool) → List ℕ → ℕ
largest earlier xs = largest_from earlier xs 0 0 xs

-- every definition above, unfolded at once
unfoldable pub computed : Unit {0}
unfolding every some passing apart Every ascending counted put placed ordered largest_from largest
computed = tt
