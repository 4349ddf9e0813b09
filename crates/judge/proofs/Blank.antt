-- A section, or a notice, that equals the one of noughts is blank as the definitions say it.
use Rattle.numbers.proofs.Words.{◌≡◌, refl, ap, ap₂, Bool, true, false, not, ◌&&◌, eqb, ℤ, pos, within}
use Rattle.std.proofs.Common.{int_eq}
use mathlib.Core.Bool.{beq}
use lib.Pointwise.{pointwise}
use Rattle.std.proofs.lemmas.Bool.Decides.{same_from_decides, Decides-int_eq}
use Rattle.numbers.proofs.Whole.{within_zero}
use Rattle.rules.specs.declared.book.{Section.Section, Notice.Notice}
use Rattle.rules.specs.Book.{blank_code, position_of, basis_of, section_blank, notice_blank}
use Rattle.section_code.proofs.Laws.{pairwise_same}

nought : (z : ℤ) → int_eq z (pos 0) ≡ within z 0
nought z = same_from_decides (int_eq z (pos 0)) (within z 0) (Decides-int_eq z (pos 0)) (within_zero z, λ e. rw e refl)

unset : (t : Bool) → beq t false ≡ not t
unset true = refl
unset false = refl

pub notice_is : (n : Notice) → (eqb n.section 0 && (eqb n.elevator 0 && int_eq n.lots.0 (pos 0))) ≡ notice_blank n
unfolding notice_blank
notice_is n = ap (λ (t : Bool). eqb n.section 0 && (eqb n.elevator 0 && t)) (nought n.lots.0)

pub section_is : (s : Section)
    → (eqb s.settlement 0 && (pointwise eqb s.code blank_code && (eqb s.participant 0 && (beq s.seller false && (beq s.met false && (int_eq (position_of s) (pos 0) && int_eq (basis_of s) (pos 0))))))) ≡ section_blank s
unfolding section_blank
section_is s =
    ap₂ (λ (code rest : Bool). eqb s.settlement 0 && (code && (eqb s.participant 0 && rest))) (pairwise_same s.code blank_code)
    (ap₂ ◌&&◌ (unset s.seller) (ap₂ ◌&&◌ (unset s.met) (ap₂ ◌&&◌ (nought (position_of s)) (nought (basis_of s)))))
