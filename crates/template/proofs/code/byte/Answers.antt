use Rattle.numbers.proofs.Words.{arith, ◌+◌, ◌≡◌, ◌∙◌, sym, ap, Bool, cond, [], ◌∷◌}
use Rattle.template.specs.Template.{escaped, byte_text}
use Rattle.listing.proofs.Laws.Laid.{laid_byte, laid_copied}
use Rattle.template.proofs.code.byte.Goals as goal
use Rattle.template.proofs.code.byte.Goals.{Then-is_visible}

-- the text of a byte, by what was found of it
itself : (c : Then-is_visible) → byte_text c.args.b ≡ c.args.b ∷ []
itself c = let b = c.args.b in ap (λ (t : Bool). cond t (b ∷ []) (escaped b)) (sym c.is_visible.ensures ∙ c.if-is_visible.true)

pub returns-then-is_visible : goal.returns-then-is_visible
returns-then-is_visible c = let s = c in rw (itself c) (laid_byte s.args.out.now s.args.at s.args.b (omega (arith, rw (itself c) at s.requires)))

pub returns : goal.returns
returns c =
    let b = c.args.b in
    let text : byte_text b ≡ escaped b = ap (λ (t : Bool). cond t (b ∷ []) (escaped b)) (sym c.is_visible.ensures ∙ c.if-is_visible.false) in
    let copied : c.copy_from_slice.new.self ≡ escaped b = cc (c.copy_from_slice.ensures.after) in
    rw text (laid_copied c.args.out.now c.args.at _ (escaped b) c.copy_from_slice.new.self (c.args.at + 4) copied (omega arith) (omega arith))
