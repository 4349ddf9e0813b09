-- Steps 1 to 3, then the passes over what they leave.
use Rattle.numbers.proofs.Words.{◌∙◌}
use Rattle.rules.specs.Book.{held_sections, filed_notices}
use Rattle.book_laws.proofs.Good.{facts}
use Rattle.method_register.specs.Passes.{Delivers}
use Rattle.method_delivery.proofs.Book.{columns, expiring}
use Rattle.method_delivery.proofs.form.Goals as goal

pub form-requires : goal.form-requires
form-requires c = expiring (facts _ c.requires.0) c.requires.2 (c.keep.auto.kept ∙ c.requires.1) c.keep.ensures.0 c.keep.ensures.1

pub returns-clause-pairs_value : goal.returns-clause-pairs_value
returns-clause-pairs_value c =
    let a = c.args in
    -- sections and notices of the book have these columns, and what is left is theirs
    let delivers : Delivers (held_sections a.b) (filed_notices a.b) a.columns.codes.now a.columns.positions.now a.columns.keys.now a.notices.sellers.now a.notices.stands.now a.notices.lots.now c.keep.new.kept =
    record { columns = columns (facts _ c.requires.0) c.requires.2; filed = c.requires.2.filed; kept_is = c.keep.ensures.0 } in
    (c.form.ensures.pairs_value _ _ delivers, c.form.ensures.register_value _ _ delivers)
