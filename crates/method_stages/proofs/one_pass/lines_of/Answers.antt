-- The stage's `ensures`, on a copy that is the list lent, after no line.
use Rattle.numbers.proofs.Words.{ℕ, ◌+◌, ◌≤◌, arith, ◌≡◌, sym, ap, subst, ◌∙◌, List, ◌++◌, length, take, drop, replicate, ap₂}
use Rattle.numbers.proofs.Front.{front_of}
use Rattle.rules.specs.Expiry.Passes.{Line}
use Rattle.method_laws.specs.Columns.{by_key}
use Rattle.method_passes.specs.Formed.{pairs_in, lines_from, Sold}
use Rattle.method_passes.proofs.Arrays.{lines_count}
use Rattle.method_stages.proofs.one_pass.lines_of.Goals as goal
use Rattle.method_stages.proofs.one_pass.lines_of.Goals.{After-copy_from_slice, Start}

few : (c : Start) → length (c.args.drawn.now) ≤ 256
few c = let notices = c.requires.known.1.notices in omega (arith, notices.few, notices.long)

-- the copy is the list lent
copied : (c : After-copy_from_slice) → take (length (c.args.drawn.now)) (c.copy_from_slice.new.self ++ drop (length (c.args.drawn.now)) (replicate 256 0)) ≡ c.args.drawn.now
copied c = (front_of (length (c.args.drawn.now)) (replicate 256 0) c.copy_from_slice.new.self (let notices = c.requires.known.1.notices in omega (arith, notices.few, notices.long)) c.copy_from_slice.auto.self).is ∙ c.copy_from_slice.ensures.after

pub form_lines-requires : goal.form_lines-requires
form_lines-requires c =
    let a = c.args in
    let same = copied (goal.at.form_lines-requires c).After-copy_from_slice in record {
      known = (c.requires.known.0, subst (λ (xs : List ℕ). Sold (a.sellers.now) (a.stands.now) xs (length (a.keys.now))) (sym same) c.requires.known.1);
      drawn_bound = subst
          (λ (xs : List ℕ). c.none-empty.result.count + length (lines_from (by_key (a.keys.now)) (a.sellers.now) (a.stands.now) (pairs_in a.formed) xs) ≤ 382)
          (sym same)
          (omega (arith, c.requires.drawn_len_bound, lines_count c.none-empty.result, ap length c.none-empty.ensures));
    }

pub returns : goal.returns
returns c =
    let a = c.args in
    let formed = λ (xs : List ℕ). lines_from (by_key (a.keys.now)) (a.sellers.now) (a.stands.now) (pairs_in a.formed) xs in
    c.form_lines.ensures ∙ ap₂ (λ (ls : List Line) (xs : List ℕ). ls ++ formed xs) c.none-empty.ensures (copied (goal.at.returns c).After-copy_from_slice)
