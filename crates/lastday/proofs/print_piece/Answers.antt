use Rattle.numbers.proofs.Words.{sym, take, rules, length-take-le}
use Rattle.lastday.proofs.Laws.Feeding.{piece_within, end_within}
use Rattle.lastday.proofs.print_piece.Goals as goal

-- what is written lies within the list
pub slice_bounds-write_output-end : goal.slice_bounds-write_output-end
slice_bounds-write_output-end g c = end_within (take c.args.held c.args.kept.now) (search rules) c.end-last.ensures

pub slice_bounds-write_output-end-then-count-eq0 : goal.slice_bounds-write_output-end-then-count-eq0
slice_bounds-write_output-end-then-count-eq0 g c = sym (length-take-le _ _ (end_within (take c.args.held c.args.kept.now) (search rules) c.end-last.ensures))

pub slice_bounds-write_output-end-2 : goal.slice_bounds-write_output-end-2
slice_bounds-write_output-end-2 g c = piece_within _ _ (search rules) c.piece-fed.ensures

pub slice_bounds-write_output-end-3 : goal.slice_bounds-write_output-end-3
slice_bounds-write_output-end-3 g c = sym (length-take-le _ _ (piece_within _ _ (search rules) c.piece-fed.ensures))
