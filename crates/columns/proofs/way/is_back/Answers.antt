use Rattle.numbers.proofs.Words.{◌≡◌, ℕ, refl, ap, ◌∙◌, Bool, ◌&&◌, List, [], ◌∷◌, eqb, same}
use Rattle.numbers.specs.Text.{bytes}
use lib.Pointwise.{pointwise}
use Rattle.columns.proofs.way.is_back.Goals as goal

-- what the library's `==` compares, letter by letter, is the sameness of two words
letters : (xs ys : List ℕ) → pointwise eqb xs ys ≡ same xs ys
unfolding same
letters [] [] = refl
letters [] (y ∷ ys) = refl
letters (x ∷ xs) [] = refl
letters (x ∷ xs) (y ∷ ys) = ap (λ (t : Bool). eqb x y && t) (letters xs ys)

pub returns : goal.returns
unfolding bytes
returns c = c.eq.ensures ∙ ap (pointwise eqb c.args.word.now) c.as_slice.ensures ∙ letters c.args.word.now _
