use Rattle.numbers.proofs.Words.{ℕ, arith, ◌≡◌, List, [], ◌∷◌, ne_eqb}
use Rattle.template.specs.Template.{piece_text}
use Rattle.listing.proofs.Laws.Laid.{laid_byte}
use Rattle.template.proofs.piece.Goals as goal
use Rattle.template.proofs.piece.Goals.{Else-c-eq64}

-- a byte that takes no number is itself
as_itself : (c n : ℕ) (codes : List ℕ) → (c ≡ 35 → ⊥) → (c ≡ 126 → ⊥) → (c ≡ 64 → ⊥) → piece_text c n codes ≡ c ∷ []
as_itself c n codes o p q = simp (ne_eqb c 35 o, ne_eqb c 126 p, ne_eqb c 64 q)

-- at the goal
itself : (c : Else-c-eq64) → piece_text c.args.c c.args.n c.args.codes.now ≡ c.args.c ∷ []
itself c = as_itself _ _ _ c.if-c-eq35.false c.if-c-eq126.false c.if-c-eq64.false

pub returns : goal.returns
returns c =
    rw (itself c) (laid_byte c.args.out.now c.args.at c.args.c (omega (arith, rw (itself c) at c.requires)))
