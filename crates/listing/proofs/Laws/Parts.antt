-- A text written part by part: what stands, and the parts that are left.
use Rattle.numbers.proofs.Words.{ℕ, ◌+◌, ◌≤◌, ◌<◌, arith, ◌≡◌, refl, sym, ap, ◌∙◌, List, [], ◌∷◌, ◌++◌, append_assoc, append-nil, length, length-append, entry, entry_ℤ}
use Rattle.rules.specs.File.{Lent}
use Rattle.rules.specs.Listing.{row}
use Rattle.numbers.specs.Text.{decimal, signed_decimal}
use Rattle.listing.specs.Columns.{code_at, field, lots_fields, section_row_of}
use Rattle.listing.specs.Laid.{Laid}
use Rattle.listing.proofs.Laws.Laid.{laid_none, laid_then, laid_length}

-- texts one after the other
abbrev pub joined : List (List ℕ) → List ℕ
joined [] = []
joined (t ∷ ts) = t ++ joined ts

-- the fields of a row, each with the byte that ends it (01, Program, 3)
abbrev pub ended : List (List ℕ) → List (List ℕ)
ended [] = (10 ∷ []) ∷ []
ended (a ∷ []) = field a 10 ∷ []
ended (a ∷ b ∷ rest) = field a 32 ∷ ended (b ∷ rest)

pub row_joined : (fields : List (List ℕ)) → row fields ≡ joined (ended fields)
unfolding row
row_joined [] = refl
row_joined (a ∷ []) = sym (append-nil (field a 10))
row_joined (a ∷ b ∷ rest) = rw (row_joined (b ∷ rest), append_assoc)

-- `whole` is to stand from a place of `was` on: some of it stands in `now`, which ends at `next`, and the texts are to come
pub record Begun (was : List ℕ) (at : ℕ) (whole now : List ℕ) (next : ℕ) (texts : List (List ℕ)) : Type 0 where
  pub done : List ℕ
  pub laid : Laid was at done now next
  pub parts : whole ≡ done ++ joined texts
  pub room : at + length whole ≤ length was

pub begun : (was : List ℕ) (at : ℕ) (whole : List ℕ) (texts : List (List ℕ)) → whole ≡ joined texts → at + length whole ≤ length was → Begun was at whole was at texts
begun was at whole texts parts room = record { done = []; laid = laid_none was at; parts = parts; room = room }

pub begun_row : (was : List ℕ) (at : ℕ) (fields : List (List ℕ)) → at + length (row fields) ≤ length was → Begun was at (row fields) was at (ended fields)
begun_row was at fields = begun was at (row fields) (ended fields) (row_joined fields)

module _ {was : List ℕ} {at : ℕ} {whole mid : List ℕ} {next : ℕ} where
  module _ {text : List ℕ} {texts : List (List ℕ)} (b : Begun was at whole mid next (text ∷ texts)) where
    long : at + length b.done + length text + length (joined texts) ≤ length was
    long = omega (arith, b.room, ap length b.parts, length-append b.done (text ++ joined texts), length-append text (joined texts))

    -- there is room for the next text
    pub room_next : next + length text ≤ length mid
    room_next = omega (arith, long, b.laid.ends, laid_length b.done b.laid (omega (arith, long)))

    -- and the others are left when it stands
    pub then : {now : List ℕ} {last : ℕ} → Laid mid next text now last → Begun was at whole now last texts
    then l =
        record {
          done = b.done ++ text;
          laid = laid_then b.done text b.laid (omega (arith, long)) l;
          parts = b.parts ∙ sym (append_assoc b.done text (joined texts));
          room = b.room;
        }

  -- a field comes next, with room for the byte that ends it
  pub room_field : (text : List ℕ) (end : ℕ) {texts : List (List ℕ)} → Begun was at whole mid next (field text end ∷ texts) → next + length text < length mid
  room_field text end b = omega (arith, room_next b, length-append text (end ∷ []))

  -- nothing is left
  pub finished : Begun was at whole mid next [] → Laid was at whole mid next
  finished b = rw (b.parts, append-nil) b.laid

-- a section's code and lots part by part, and a section's row with them as one part (01, Program, 1; 02, a, 4)
module _ (codes : List ℕ) (i : ℕ) where
  pub lots_parts : (delivered terminated lapsed end : ℕ) → lots_fields codes i delivered terminated lapsed end ≡ joined (field (code_at codes i) 32 ∷ field (decimal delivered) 32 ∷ field (decimal terminated) 32 ∷ field (decimal lapsed) end ∷ [])
  lots_parts delivered terminated lapsed end =
      ap (λ (last : List ℕ). field (code_at codes i) 32 ++ (field (decimal delivered) 32 ++ (field (decimal terminated) 32 ++ last))) (sym (append-nil (field (decimal lapsed) end)))

  pub lots_row_lem : (delivered terminated lapsed : ℕ) → row (code_at codes i ∷ decimal delivered ∷ decimal terminated ∷ decimal lapsed ∷ []) ≡ lots_fields codes i delivered terminated lapsed 10
  lots_row_lem delivered terminated lapsed = row_joined (code_at codes i ∷ decimal delivered ∷ decimal terminated ∷ decimal lapsed ∷ []) ∙ sym (lots_parts delivered terminated lapsed 10)

  pub section_parts : (lent : Lent) → section_row_of codes lent i ≡ joined (lots_fields codes i (entry lent.lists.delivered i) (entry lent.lists.terminated i) (entry lent.lists.lapsed i) 32 ∷ field (signed_decimal (entry_ℤ lent.sums i)) 10 ∷ [])
  section_parts lent =
      let ls = lent.lists in
      row_joined (code_at codes i ∷ decimal (entry ls.delivered i) ∷ decimal (entry ls.terminated i) ∷ decimal (entry ls.lapsed i) ∷ signed_decimal (entry_ℤ lent.sums i) ∷ []) ∙ sym (simp append_assoc)
