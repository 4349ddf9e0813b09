-- Texts laid one after the other into a list.
use Rattle.numbers.proofs.Words.{ℕ, ◌+◌, ◌≤◌, ◌<◌, zero-add, add-zero, add-one, arith, ◌≡◌, refl, sym, ap, ◌∙◌, List, [], ◌∷◌, ◌++◌, append_assoc, length, take, drop, drop-drop, set, length-append, set_split, put, over}
use Rattle.numbers.proofs.Put.{put-length, put_then, put_nothing}
use borrow.Rule.Slice.PartMut.{put_mid}
use Rattle.listing.specs.Laid.{Laid}

-- nothing is laid
pub laid_none : (was : List ℕ) (at : ℕ) → Laid was at [] was at
laid_none was at = record { written = sym (put_nothing was at); ends = sym (add-zero at) }

-- one byte
pub laid_byte : (was : List ℕ) (at byte : ℕ) → at < length was → Laid was at (byte ∷ []) (set was at byte) (at + 1)
unfolding put
laid_byte was at byte h = record { written = set_split was at byte h ∙ rw (append_assoc, add-one); ends = refl }

-- a text copied into its place
pub laid_copied : (was : List ℕ) (at k : ℕ) (text copied : List ℕ) (next : ℕ) → copied ≡ text → k ≡ length text → next ≡ at + length text → Laid was at text (put_mid at k was copied) next
unfolding put
laid_copied was at k text copied next same long ends = record {
  written = rw (same, long, ← append_assoc) (ap (λ (l : List ℕ). (take at was ++ text) ++ l) (drop-drop (length text) at was));
  ends = ends;
}

-- a text after another: both stand from the first one's place on
module _ {was mid : List ℕ} {at next : ℕ} (a b : List ℕ) (first : Laid was at a mid next) (room : at + length a ≤ length was) where
  pub laid_then : {now : List ℕ} {last : ℕ} → Laid mid next b now last → Laid was at (a ++ b) now last
  laid_then second = record {
    written = second.written ∙ ap (λ (l : List ℕ). put l next b) first.written ∙ put_then was at a room next b first.ends;
    ends = second.ends ∙ omega (arith, first.ends, length-append a b);
  }

-- and a byte that ends it
pub laid_field : (was : List ℕ) (at k : ℕ) (text copied : List ℕ) (end : ℕ) → copied ≡ text → k ≡ length text → at + length text < length was → Laid was at (text ++ (end ∷ [])) (set (put_mid at k was copied) (at + length text) end) (at + length text + 1)
laid_field was at k text copied end same long room =
    let laid = laid_copied was at k text copied (at + length text) same long refl in
    laid_then text (end ∷ []) laid (omega arith) (laid_byte (put_mid at k was copied) (at + length text) end (omega (arith, ap length laid.written, put-length was at text (omega arith))))

-- what is laid leaves the length
pub laid_length : {was now : List ℕ} {at next : ℕ} (text : List ℕ) → Laid was at text now next → at + length text ≤ length was → length now ≡ length was
laid_length {was = was} {at = at} text l room = ap length l.written ∙ put-length was at text room

-- laid from the start
pub laid_over : {was now : List ℕ} {next : ℕ} (text : List ℕ) → Laid was 0 text now next → (next ≡ length text) × (now ≡ over text was)
unfolding put
laid_over {was = was} text l = (l.ends ∙ zero-add (length text), l.written ∙ ap (λ (n : ℕ). text ++ drop n was) (zero-add (length text)))
