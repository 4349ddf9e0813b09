use Rattle.numbers.proofs.Words.{arith, ◌+◌, ◌*◌, ◌≡◌, ◌∙◌, sym, ap, length, length-take, length-drop, refl}
use Rattle.rules.specs.Book.{section_at}
use Rattle.listing.proofs.Laws.Laid.{laid_copied}
use Rattle.listing.proofs.Laws.Codes.{codes_next}
use Rattle.listing.proofs.codes.laid.Goals as goal

pub loop-i-preserved : goal.loop-i-preserved
loop-i-preserved c =
    let i = c.loop-i.i in
    let code = (section_at c.args.b i).code in
    let seven : length code ≡ 7 = sym (ap length c.copy_from_slice.ensures.after) ∙ c.copy_from_slice.ensures.len ∙ simp (length-take, length-drop) (omega (arith, c.loop-i.invariant.long)) in
    let laid = laid_copied c.loop-i.codes (7 * i) _ code c.copy_from_slice.new.self (7 * i + length code) c.copy_from_slice.ensures.after (omega (arith, seven)) refl in
    codes_next _ c.loop-i.codes i c.loop-i.invariant c.loop-i-test.true seven _ laid.written
