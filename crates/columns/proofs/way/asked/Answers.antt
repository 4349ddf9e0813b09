use Rattle.numbers.proofs.Words.{ℕ, ◌≤◌, arith, ◌≡◌, sym, ap, ◌∙◌, Bool, cond, ◌&&◌, List, eqb, lt-ltb, le-ltb, same}
use Rattle.numbers.specs.Text.{bytes}
use Rattle.columns.specs.declared.way.Way.TheVariants.{Forth, Back, Unknown}
use Rattle.columns.specs.Way.{way_asked}
use Rattle.columns.proofs.way.asked.Goals as goal

-- with an argument it is the test of the words
told : (given : ℕ) (word : List ℕ) {back t : Bool} → back ≡ same word (bytes "back") → 2 ≤ given → (eqb given 2 && back) ≡ t → cond t Back Unknown ≡ way_asked given word
unfolding way_asked
told given word e h test =
    ap (λ (t : Bool). cond t Back Unknown) (sym test ∙ ap (λ (b : Bool). eqb given 2 && b) e)
    ∙ sym (ap (λ (few : Bool). cond few Forth (cond (eqb given 2 && same word (bytes "back")) Back Unknown)) (le-ltb given 2 h))

pub returns-then-given-lt2 : goal.returns-then-given-lt2
unfolding way_asked
returns-then-given-lt2 c = simp (lt-ltb c.args.given 2 (omega arith))

pub returns-then-given-back : goal.returns-then-given-back
unfolding way_asked
returns-then-given-back c = told c.args.given (c.args.word.now) c.is_back-back.ensures (omega arith) c.if-given-back.true

pub returns : goal.returns
unfolding way_asked
returns c = told c.args.given (c.args.word.now) c.is_back-back.ensures (omega arith) c.if-given-back.false
