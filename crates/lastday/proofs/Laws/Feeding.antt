-- An input in pieces: how it is cut does not matter, and what is printed is what the definition of its rows says.
use Rattle.numbers.proofs.Words.{ℕ, ◌+◌, ◌*◌, ◌≤◌, ◌<◌, add-one, arith, ◌≡◌, refl, sym, ap, ap₂, subst, subst⁻¹, ◌∙◌, Bool, true, false, not, cond, List, [], ◌∷◌, ◌++◌, append_assoc, append-nil, flat_map, length, length-append, take, take-suc, take_all, length-take, length-take-le, take-take, set, length-set, take-suc-set, ⊎_elim, eqb, eqb-true, eq-eqb, ne_eqb, not-true, every}
use lib.Seq.{take-append-le}
use Rattle.numbers.specs.Text.{in_front, parts_of}
use Rattle.numbers.proofs.Tests.{both, below_or_not}
use Rattle.numbers.proofs.Changed.{every_append}
use Rattle.numbers.proofs.Lists.{Has}
use Rattle.listing.specs.Laid.{Laid}
use Rattle.listing.proofs.Laws.Laid.{laid_none, laid_then, laid_length}
use Rattle.lastday.specs.Rows.{row_answer, answers_to}
use Rattle.lastday.specs.Feeding.{kept_most, byte_text, byte_kept, text_of, kept_after, last_text, printed_of, Fed}
use Rattle.lastday.proofs.Laws.Answers.{long_row, row_most_lem}

-- one piece after another
text_then : (kept first bs : List ℕ) → text_of kept (first ++ bs) ≡ text_of kept first ++ text_of (kept_after kept first) bs
unfolding text_of kept_after
text_then kept [] bs = refl
text_then kept (a ∷ first) bs =
    ap (λ (text : List ℕ). byte_text kept a ++ text) (text_then (byte_kept kept a) first bs)
    ∙ sym (append_assoc (byte_text kept a) (text_of (byte_kept kept a) first) (text_of (kept_after (byte_kept kept a) first) bs))

kept_then : (kept first bs : List ℕ) → kept_after kept (first ++ bs) ≡ kept_after (kept_after kept first) bs
unfolding kept_after
kept_then kept [] bs = refl
kept_then kept (a ∷ first) bs = kept_then (byte_kept kept a) first bs

-- one byte prints at most 11, and so each of a piece
byte_most : (kept : List ℕ) (b : ℕ) → length (byte_text kept b) ≤ 11
byte_most kept b = go (eqb b 10)
  where
    go : (t : Bool) → length (cond t (row_answer kept) []) ≤ 11
    go true = row_most_lem kept
    go false = omega arith

text_most : (kept bs : List ℕ) → length (text_of kept bs) ≤ 11 * length bs
unfolding text_of
text_most kept [] = omega arith
text_most kept (b ∷ bs) = omega (arith, length-append (byte_text kept b) (text_of (byte_kept kept b) bs), byte_most kept b, text_most (byte_kept kept b) bs)

-- one byte: it ends the row; it is put to what is kept of it; there is no place left for it
module _ (out kept : List ℕ) (at held b : ℕ) (long : length kept ≡ kept_most) (few : held ≤ kept_most) where
  abbrev row : List ℕ
  row = take held kept

  front : length row ≡ held
  front = length-take-le held kept (omega (arith, few, long))

  abbrev FedByte : Bool → List ℕ → ℕ → List ℕ → ℕ → Type 0
  FedByte ends out_now written kept_now held_now = Fed out at (cond ends (row_answer row) []) out_now written (cond ends [] (take kept_most (row ++ (b ∷ [])))) kept_now held_now

  pub byte_ends : {out_now : List ℕ} {written : ℕ} → b ≡ 10 → Laid out at (row_answer row) out_now written → FedByte (eqb b 10) out_now written kept 0
  byte_ends {out_now} {written} e laid =
      subst⁻¹ (λ (t : Bool). FedByte t out_now written kept 0) (eq-eqb b 10 e) (record { laid = laid; kept = refl; few = omega arith; long = long })

  module _ (e : b ≡ 10 → ⊥) where
    pub byte_put : held < kept_most → FedByte (eqb b 10) out at (set kept held b) (held + 1)
    byte_put h =
        subst⁻¹ (λ (t : Bool). FedByte t out at (set kept held b) (held + 1)) (ne_eqb b 10 e)
        (record {
          laid = laid_none out at;
          kept =
              ap (λ (n : ℕ). take n (set kept held b)) (add-one held) ∙ take-suc-set kept held b (omega (arith, h, long))
              ∙ sym (take_all kept_most (row ++ (b ∷ [])) (omega (arith, h, front, length-append row (b ∷ []))));
          few = omega (arith, h);
          long = length-set kept held b ∙ long;
        })

    pub byte_left : kept_most ≤ held → FedByte (eqb b 10) out at kept held
    byte_left h =
        subst⁻¹ (λ (t : Bool). FedByte t out at kept held) (ne_eqb b 10 e)
        (record {
          laid = laid_none out at;
          kept = sym (take-append-le kept_most row (b ∷ []) (omega (arith, h, front)) ∙ take_all kept_most row (omega (arith, few, front)));
          few = few;
          long = long;
        })

-- what a loop over a piece keeps: its first i bytes are fed
pub record Feeding (was row bytes now kept : List ℕ) (held written i : ℕ) : Type 0 where
  pub place : i ≤ length bytes
  pub room : 11 * length bytes ≤ length was
  pub fed : Fed was 0 (text_of row (take i bytes)) now written (kept_after row (take i bytes)) kept held

pub feeding_start : (was kept bytes : List ℕ) (held : ℕ) → held ≤ kept_most → length kept ≡ kept_most → 11 * length bytes ≤ length was → Feeding was (take held kept) bytes was kept held 0 0
unfolding text_of kept_after
feeding_start was kept bytes held few long room =
    record { place = omega arith; room = room; fed = record { laid = laid_none was 0; kept = refl; few = few; long = long } }

module _ {was row bytes now kept : List ℕ} {held written i : ℕ} (f : Feeding was row bytes now kept held written i) where
  abbrev text : List ℕ
  text = text_of row (take i bytes)

  text_room : 0 + length text ≤ length was
  text_room = omega (arith, f.place, f.room, text_most row (take i bytes), length-take-le i bytes f.place)

  pub feeding_length : length now ≡ length was
  feeding_length = laid_length text f.fed.laid text_room

  pub feeding_end : length bytes ≤ i → Fed was 0 (text_of row bytes) now written (kept_after row bytes) kept held
  feeding_end h = rw (take_all i bytes h) at f.fed

  module _ {b : ℕ} (here : Has bytes i b) where
    pub feeding_room : written + 11 ≤ length now
    feeding_room =
        omega (arith, here.below, f.room, f.fed.laid.ends, feeding_length, text_most row (take i bytes), length-take-le i bytes f.place)

    one_more : take (i + 1) bytes ≡ take i bytes ++ (b ∷ [])
    one_more = ap (λ (n : ℕ). take n bytes) (add-one i) ∙ take-suc bytes i here.other here.below ∙ ap (λ (x : ℕ). take i bytes ++ (x ∷ [])) here.entry

    pub feeding_next : {later kept_later : List ℕ} {held_later last : ℕ} → Fed now written (byte_text (take held kept) b) later last (byte_kept (take held kept) b) kept_later held_later
        → Feeding was row bytes later kept_later held_later last (i + 1)
    unfolding text_of kept_after
    feeding_next {later} {kept_later} {held_later} {last} g =
        let row_now = kept_after row (take i bytes) in
        let texts : text ++ byte_text (take held kept) b ≡ text_of row (take (i + 1) bytes) =
        ap (λ (k : List ℕ). text ++ byte_text k b) f.fed.kept ∙ ap (λ (t : List ℕ). text ++ t) (sym (append-nil (byte_text row_now b))) ∙ sym (ap (text_of row) one_more ∙ text_then row (take i bytes) (b ∷ [])) in
        let rows : byte_kept (take held kept) b ≡ kept_after row (take (i + 1) bytes) =
        ap (λ (k : List ℕ). byte_kept k b) f.fed.kept ∙ sym (ap (kept_after row) one_more ∙ kept_then row (take i bytes) (b ∷ [])) in
        record {
          place = omega (arith, here.below);
          room = f.room;
          fed =
              record {
                laid = subst (λ (t : List ℕ). Laid was 0 t later last) texts (laid_then text (byte_text (take held kept) b) f.fed.laid text_room g.laid);
                kept = g.kept ∙ rows;
                few = g.few;
                long = g.long;
              };
        }

-- what is written lies within the list
written_within : {was now : List ℕ} {written : ℕ} (text : List ℕ) → length text ≤ length was → Laid was 0 text now written → written ≤ length now
written_within text room laid = omega (arith, room, laid.ends, laid_length text laid (omega (arith, room)))

pub piece_within : (row bytes : List ℕ) {was now kept : List ℕ} {held written : ℕ} → 11 * length bytes ≤ length was → Fed was 0 (text_of row bytes) now written (kept_after row bytes) kept held → written ≤ length now
piece_within row bytes room fed = written_within (text_of row bytes) (omega (arith, room, text_most row bytes)) fed.laid

pub end_within : (kept : List ℕ) {was now : List ℕ} {written : ℕ} → 11 ≤ length was → Laid was 0 (last_text kept) now written → written ≤ length now
end_within kept {was} room = written_within (last_text kept) (go (eqb (length kept) 0))
  where
    go : (t : Bool) → length (cond t [] (row_answer kept)) ≤ length was
    go true = omega arith
    go false = omega (arith, room, row_most_lem kept)

-- a row of which 4,097 bytes are kept is answered as the whole
capped : (row : List ℕ) → row_answer (take kept_most row) ≡ row_answer row
capped row =
    ⊎_elim (λ (h : kept_most < length row). long_row (take kept_most row) (omega (arith, length-take-le kept_most row (omega (arith, h)))) ∙ sym (long_row row (omega (arith, h))))
    (λ (h : length row ≤ kept_most). ap row_answer (take_all kept_most row h))
    (below_or_not kept_most (length row))

capped_more : (row : List ℕ) (b : ℕ) → take kept_most (take kept_most row ++ (b ∷ [])) ≡ take kept_most (row ++ (b ∷ []))
capped_more row b =
    ⊎_elim
    (λ (h : kept_most < length row).
    take-append-le kept_most (take kept_most row) (b ∷ []) (omega (arith, h, length-take-le kept_most row (omega (arith, h)))) ∙ take-take kept_most kept_most row (omega arith)
    ∙ sym (take-append-le kept_most row (b ∷ []) (omega (arith, h))))
    (λ (h : length row ≤ kept_most). ap (λ (k : List ℕ). take kept_most (k ++ (b ∷ []))) (take_all kept_most row h))
    (below_or_not kept_most (length row))

-- a row with no end in it, followed by one or by nothing
abbrev unended : List ℕ → Bool
unended = every (λ (b : ℕ). not (eqb b 10))

parts_ended : (row input : List ℕ) → unended row ≡ true → parts_of 10 (row ++ 10 ∷ input) ≡ row ∷ parts_of 10 input
unfolding parts_of in_front every
parts_ended [] input h = refl
parts_ended (b ∷ row) input h =
    let tests = both (not (eqb b 10)) (unended row) h in
    ap₂ (λ (t : Bool) (parts : List (List ℕ)). cond t ([] ∷ parts_of 10 (row ++ 10 ∷ input)) (in_front b parts)) (not-true (eqb b 10) tests.0) (parts_ended row input tests.1)

parts_open : (b : ℕ) (row : List ℕ) → unended (b ∷ row) ≡ true → parts_of 10 (b ∷ row) ≡ (b ∷ row) ∷ []
unfolding parts_of in_front every
parts_open b [] h = ap (λ (t : Bool). cond t ([] ∷ []) ((b ∷ []) ∷ [])) (not-true (eqb b 10) (both (not (eqb b 10)) true h).0)
parts_open b (c ∷ row) h =
    let tests = both (not (eqb b 10)) (unended (c ∷ row)) h in
    ap₂ (λ (t : Bool) (parts : List (List ℕ)). cond t ([] ∷ parts_of 10 (c ∷ row)) (in_front b parts)) (not-true (eqb b 10) tests.0) (parts_open c row tests.1)

unended_more : (row : List ℕ) (b : ℕ) → unended row ≡ true → eqb b 10 ≡ false → unended (row ++ (b ∷ [])) ≡ true
unfolding every
unended_more row b h e = every_append (λ (c : ℕ). not (eqb c 10)) row (b ∷ []) h (rw e)

-- the end of the input, where a row has begun and where none has
pub some_text : (kept : List ℕ) → (length kept ≡ 0 → ⊥) → last_text kept ≡ row_answer kept
some_text kept some = ap (λ (t : Bool). cond t [] (row_answer kept)) (ne_eqb (length kept) 0 some)

pub no_text : (kept : List ℕ) → length kept ≡ 0 → last_text kept ≡ []
no_text kept none = ap (λ (t : Bool). cond t [] (row_answer kept)) (eq-eqb (length kept) 0 none)

last_answer : (row : List ℕ) → unended row ≡ true → last_text (take kept_most row) ≡ flat_map row_answer (parts_of 10 row)
unfolding flat_map parts_of
last_answer [] h = refl
last_answer (b ∷ row) h =
    some_text (take kept_most (b ∷ row)) (λ e. absurd (omega (arith, e, length-take kept_most (b ∷ row)))) ∙ capped (b ∷ row) ∙ sym (append-nil (row_answer (b ∷ row))) ∙ ap (flat_map row_answer) (sym (parts_open b row h))

-- what is printed for an input after what has come of a row
fed_whole : (row input : List ℕ) → unended row ≡ true → text_of (take kept_most row) input ++ last_text (kept_after (take kept_most row) input) ≡ flat_map row_answer (parts_of 10 (row ++ input))
unfolding text_of kept_after flat_map every
fed_whole row [] h = last_answer row h ∙ ap (λ (bs : List ℕ). flat_map row_answer (parts_of 10 bs)) (sym (append-nil row))
fed_whole row (b ∷ input) h = go (eqb b 10) refl (fed_whole [] input) (fed_whole (row ++ (b ∷ [])) input)
  where
    go : (t : Bool) → eqb b 10 ≡ t
        → (unended [] ≡ true → text_of [] input ++ last_text (kept_after [] input) ≡ flat_map row_answer (parts_of 10 input))
        → (unended (row ++ (b ∷ [])) ≡ true → text_of (take kept_most (row ++ (b ∷ []))) input ++ last_text (kept_after (take kept_most (row ++ (b ∷ []))) input) ≡ flat_map row_answer (parts_of 10 ((row ++ (b ∷ [])) ++ input)))
        → (cond t (row_answer (take kept_most row)) [] ++ text_of (cond t [] (take kept_most (take kept_most row ++ (b ∷ [])))) input)
        ++ last_text (kept_after (cond t [] (take kept_most (take kept_most row ++ (b ∷ [])))) input) ≡ flat_map row_answer (parts_of 10 (row ++ b ∷ input))
    go true e ended more =
        append_assoc (row_answer (take kept_most row)) (text_of [] input) (last_text (kept_after [] input))
        ∙ ap₂ ◌++◌ (capped row) (ended refl)
        ∙ ap (flat_map row_answer) (sym (ap (λ (c : ℕ). parts_of 10 (row ++ c ∷ input)) (eqb-true b 10 e) ∙ parts_ended row input h))
    go false e ended more =
        ap (λ (kept : List ℕ). text_of kept input ++ last_text (kept_after kept input)) (capped_more row b)
        ∙ more (unended_more row b h e)
        ∙ ap (λ (bs : List ℕ). flat_map row_answer (parts_of 10 bs)) (append_assoc row (b ∷ []) input)

-- all pieces as one
pieces_joined : (kept : List ℕ) (pieces : List (List ℕ)) → printed_of kept pieces ≡ text_of kept (flat_map (λ (p : List ℕ). p) pieces) ++ last_text (kept_after kept (flat_map (λ (p : List ℕ). p) pieces))
unfolding printed_of text_of kept_after flat_map
pieces_joined kept [] = refl
pieces_joined kept (piece ∷ pieces) =
    let rest = flat_map (λ (p : List ℕ). p) pieces in
    let row = kept_after kept piece in
    ap (λ (text : List ℕ). text_of kept piece ++ text) (pieces_joined row pieces)
    ∙ sym (append_assoc (text_of kept piece) (text_of row rest) (last_text (kept_after row rest)))
    ∙ ap₂ (λ (text k : List ℕ). text ++ last_text k) (sym (text_then kept piece rest)) (sym (kept_then kept piece rest))

-- However an input is cut into pieces, what is printed is the answers to its rows (02, e, 2)
pub cut_anywhere : (pieces : List (List ℕ)) → printed_of [] pieces ≡ answers_to (flat_map (λ (p : List ℕ). p) pieces)
unfolding answers_to every
cut_anywhere pieces = pieces_joined [] pieces ∙ fed_whole [] (flat_map (λ (p : List ℕ). p) pieces) refl
