-- Rows that end at blanks: nothing done, one blank changed, one change after another.
use Rattle.numbers.proofs.Words.{ℕ, ◌≡◌, refl, sym, ap, ◌∙◌, true, true≢false, List, eqb, set, length-set, get_or-set_other, entry}
use Rattle.explain_row.specs.Folded.{Folded}

pub folded_none : (was : List ℕ) → Folded was was
folded_none was = record { long = refl; stays = λ i h. refl }

pub folded_then : {was mid now : List ℕ} → Folded was mid → Folded mid now → Folded was now
folded_then {was} {mid} {now} first next =
    record {
      long = next.long ∙ first.long;
      stays = λ i h. next.stays i (ap (λ (x : ℕ). eqb x 32) (first.stays i h) ∙ h) ∙ first.stays i h;
    }

-- a blank that ends a row
pub folded_set : (was : List ℕ) (blank : ℕ) → eqb (entry was blank) 32 ≡ true → Folded was (set was blank 10)
folded_set was blank e =
    record {
      long = length-set was blank 10;
      stays = λ i h. get_or-set_other was blank i 10 0 (λ same. absurd (true≢false (sym e ∙ ap (λ (k : ℕ). eqb (entry was k) 32) (sym same) ∙ h)));
    }
