-- How much a template comes to at most.
use Rattle.numbers.proofs.Words.{ℕ, ◌*◌, ◌≤◌, arith, Bool, true, false, List, [], ◌∷◌, cond, eqb, drop, length, length-append, entry}
use Rattle.numbers.specs.Text.{decimal}
use Rattle.listing.proofs.Laws.Most.{decimal_few}
use Rattle.listing.proofs.Laws.Rows.{texts_most}
use Rattle.template.specs.Template.{escaped, visible, byte_text, first_code, code_text, sign_text, takes_number, piece_text, filled}

-- of two texts, whichever it is
one_long : (t : Bool) (a b : List ℕ) (m : ℕ) → length a ≤ m → length b ≤ m → length (cond t a b) ≤ m
one_long true a b m ha hb = ha
one_long false a b m ha hb = hb

-- a byte of a section code has at most 4, and a code 28
byte_long : (b : ℕ) → length (byte_text b) ≤ 4
byte_long b = one_long (visible b) (b ∷ []) (escaped b) 4 (omega arith) (omega arith)

first_long : (codes : List ℕ) → length (first_code codes) ≤ 28
unfolding first_code
first_long codes = texts_most (λ (i : ℕ). byte_text (entry codes i)) 4 7 (λ i h. byte_long (entry codes i))

pub code_long : (codes : List ℕ) (number : ℕ) → length (code_text codes number) ≤ 28
code_long codes number = first_long (drop (7 * number) codes)

piece_long : (c n : ℕ) (codes : List ℕ) → length (piece_text c n codes) ≤ 28
piece_long c n codes =
    one_long (eqb c 35) (decimal n) _ 28 (omega (arith, decimal_few n))
    (one_long (eqb c 126) (sign_text n) _ 28 (one_long (eqb n 0) [] (45 ∷ []) 28 (omega arith) (omega arith))
    (one_long (eqb c 64) (code_text codes n) (c ∷ []) 28 (code_long codes n) (omega arith)))

-- a byte of a template is a code at most
pub filled_long : (template numbers codes : List ℕ) → length (filled template numbers codes) ≤ 28 * length template
unfolding filled
filled_long [] numbers codes = omega arith
filled_long (c ∷ template) numbers codes =
    let later = drop (cond (takes_number c) 1 0) numbers in
    omega (arith, length-append (piece_text c (entry numbers 0) codes) (filled template later codes), piece_long c (entry numbers 0) codes, filled_long template later codes)
