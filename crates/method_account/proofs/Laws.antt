-- What a step's three calls leave in the fronts of three local lists; lists of lots that stay small.
use Rattle.numbers.proofs.Words.{ℕ, arith, ◌≡◌, ap, ap₂, subst, subst₂, ◌∙◌, Bool, List, ◌++◌, take, drop, length, ℤ, entry}
use Rattle.numbers.proofs.Front.{Front}
use Rattle.rules.specs.declared.book.{Section.Section}
use Rattle.rules.specs.Expiry.{lower_section_code}
use Rattle.method_laws.specs.Columns.{Columns, by_key, AtMost, Small}
use Rattle.method_laws.specs.Giving.{sooner, in_order}
use Rattle.method_laws.proofs.Columns.{order_by_keys}
use Rattle.method_steps.proofs.Laws.{noughts}
use Rattle.method_account.specs.declared.giving.{Giving.Giving}
use Rattle.method_account.specs.Gives.{Gives}

-- a list that a call left in the front of noughts
abbrev placed : ℕ → List ℕ → List ℕ
placed n front = front ++ drop n noughts

module _ {held : ℕ} {ss : List Section} {codes : List ℕ} {positions : List ℤ} {keys : List ℕ} (columns : Columns ss codes positions keys) (long : length ss ≡ held) (larger : Bool) where
  -- keys order the sections as section codes do (01, Expiry, 2.2)
  by_codes : (lots : List ℕ) → in_order (sooner larger) (by_key keys) lots held ≡ in_order (sooner larger) (lower_section_code ss) lots held
  by_codes lots = subst (λ (n : ℕ). in_order (sooner larger) (by_key keys) lots n ≡ in_order (sooner larger) (lower_section_code ss) lots n) long (order_by_keys ss codes positions keys columns (sooner larger) lots)

  -- the three lists of a step
  module _ (may gives : List ℕ) {lots order given : List ℕ} (l : Front held noughts lots) (o : Front held noughts order) (g : Front held noughts given) where
    pub gives_of : lots ≡ may → order ≡ in_order (sooner larger) (by_key keys) (take held (placed held lots)) (length (take held (placed held lots))) → given ≡ gives
        → Gives held larger ss may gives (record { lots = placed held lots; order = placed held order; given = placed held given })
    gives_of lots_are order_is given_are =
        let all = l.is ∙ lots_are in
        record {
          lots_are = all;
          order_are = o.is ∙ order_is ∙ ap₂ (in_order (sooner larger) (by_key keys)) all l.long ∙ by_codes may;
          given_are = g.is ∙ given_are;
        }

-- a step said of equal numbers and lots
module _ {A : Type 0} (larger : Bool) (ss : List Section) (may given : A → List ℕ → List ℕ) (g : Giving) where
  abbrev Step : ℕ → A → List ℕ → Type 0
  Step held x lots = Gives held larger ss (may x lots) (given x lots) g

  pub gives_same : {held₀ held : ℕ} {x₀ x : A} {lots₀ lots : List ℕ} → held₀ ≡ held → x₀ ≡ x → lots₀ ≡ lots → Step held₀ x₀ lots₀ → Step held x lots
  gives_same {held = held} {x₀ = x₀} {lots = lots} h e l is = subst (λ (y : A). Step held y lots) e (subst₂ (λ (m : ℕ) (xs : List ℕ). Step m x₀ xs) h l is)

-- no more is given than small lots
pub given_small : {n m : ℕ} (lots given : List ℕ) → n ≡ m → Small lots → AtMost (take n given) lots → Small (take m given)
given_small lots given e small most i = omega (arith, ap (λ (k : ℕ). entry (take k given) i) e, small i, most i)
