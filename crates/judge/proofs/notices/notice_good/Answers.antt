use Rattle.numbers.proofs.Words.{◌≡◌, sym, ap, ◌∙◌, Bool, not, ℤ, pos, le_z, lt_z, w64, to_z, of_z, lt-ltb, le-ltb, lt-leb, le-leb}
use Rattle.numbers.proofs.Whole.{read_as, le_z_lt_z}
use Rattle.rules.specs.Book.{notice_good}
use Rattle.judge.proofs.notices.notice_good.Goals as goal
use Rattle.judge.proofs.notices.notice_good.Goals.{After-struct_told-1}

-- the test of at least one lot, from the machine's test of less
at_least : (c : After-struct_told-1) (t : Bool) → lt_z (to_z w64 (of_z w64 c.args.n.lots.0)) (pos 1) ≡ t → le_z (pos 1) c.args.n.lots.0 ≡ not t
at_least c t e =
    le_z_lt_z (pos 1) c.args.n.lots.0 ∙ ap not (sym (read_as (λ (z : ℤ). lt_z z (pos 1)) c.args.n.lots.0 (search)) ∙ e)

pub returns-then-held-n : goal.returns-then-held-n
unfolding notice_good
returns-then-held-n c = simp (le-ltb c.args.n.section c.args.held c.if-held-n.true)

pub returns-then-n-gt-ELEVATOR_MOST : goal.returns-then-n-gt-ELEVATOR_MOST
unfolding notice_good
returns-then-n-gt-ELEVATOR_MOST c = simp (lt-ltb c.args.n.section c.args.held c.if-held-n.false, lt-leb c.args.n.elevator 31 c.if-n-gt-ELEVATOR_MOST.true)

pub returns-then-lots-lt1 : goal.returns-then-lots-lt1
unfolding notice_good
returns-then-lots-lt1 c = simp (lt-ltb c.args.n.section c.args.held c.if-held-n.false, le-leb c.args.n.elevator 31 c.if-n-gt-ELEVATOR_MOST.false, at_least c.before _ c.if-lots-lt1.true)

pub returns : goal.returns
unfolding notice_good
returns c = simp (lt-ltb c.args.n.section c.args.held c.if-held-n.false, le-leb c.args.n.elevator 31 c.if-n-gt-ELEVATOR_MOST.false, at_least c.before _ c.if-lots-lt1.false) (read_as (λ (z : ℤ). le_z z (pos 1_000_000)) c.args.n.lots.0 (search))
