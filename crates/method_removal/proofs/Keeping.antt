-- The lines kept of the first k of a register, in a register that is written from its first place on (02, a, 3).
use Rattle.numbers.proofs.Words.{ℕ, ◌+◌, ◌≤◌, ◌<◌, add-one, arith, ◌≡◌, refl, sym, ap, ◌∙◌, Bool, true, false, not, cond, List, [], ◌∷◌, ◌++◌, length-set, counted, passing, listed}
use Rattle.numbers.proofs.Passing.{passing_more, passing_still}
use Rattle.numbers.proofs.Ranges.{listed_more}
use Rattle.rules.specs.Expiry.Passes.{Line}
use Rattle.method_passes.specs.declared.register.{Register.Register}
use Rattle.method_passes.specs.Formed.{line_in, lines_in}
use Rattle.method_passes.proofs.Arrays.{Places, written, lines_more, lines_still}
use Rattle.method_removal.specs.Removed.{one_by, kept_by}

pub record Kept (participants : List ℕ) (g kept : Register) (k : ℕ) : Type 0 where
  pub places : Places kept
  pub within : k ≤ g.count
  pub moved_up : kept.count ≤ k
  pub lines : lines_in kept ≡ kept_by participants (listed k (line_in g))

-- none yet: the register itself, and no line of it counted
pub kept_none : (participants : List ℕ) (g : Register) → Places g → Kept participants g (record { buyers = g.buyers; elevators = g.elevators; sellers = g.sellers; lots = g.lots; count = 0 }) 0
unfolding counted passing
kept_none participants g places =
    record {
      places = record { buyers = places.buyers; elevators = places.elevators; sellers = places.sellers; lots = places.lots };
      within = omega arith;
      moved_up = omega arith;
      lines = refl;
    }

-- one line more: it is written after those kept, and counted where it is kept
module _ {participants : List ℕ} {g kept : Register} {k : ℕ} (so_far : Kept participants g kept k) (here : k < g.count) (few : g.count ≤ 382) where
  abbrev line : Line
  line = line_in g k

  abbrev places : Places kept
  places = so_far.places

  abbrev with_it : ℕ → Register
  with_it = written kept line.buyer line.elevator line.seller line.lots

  abbrev passes : Line → Bool
  passes l = not (one_by participants l)

  one_more : listed (k + 1) (line_in g) ≡ listed k (line_in g) ++ (line ∷ [])
  one_more = ap (λ (n : ℕ). listed n (line_in g)) (add-one k) ∙ listed_more k (line_in g)

  lines_next : (same : Bool) → one_by participants line ≡ same → lines_in (with_it (cond same kept.count (kept.count + 1))) ≡ kept_by participants (listed (k + 1) (line_in g))
  lines_next true is =
      lines_still kept line.buyer line.elevator line.seller line.lots
      ∙ so_far.lines
      ∙ sym (ap (kept_by participants) one_more ∙ passing_still passes (listed k (line_in g)) line (ap not is))
  lines_next false is =
      lines_more kept line.buyer line.elevator line.seller line.lots (omega (arith, so_far.moved_up, here, few)) places
      ∙ ap (λ (ls : List Line). ls ++ (line ∷ [])) so_far.lines
      ∙ sym (ap (kept_by participants) one_more ∙ passing_more passes (listed k (line_in g)) line (ap not is))

  place_next : (same : Bool) → cond same kept.count (kept.count + 1) ≤ kept.count + 1
  place_next true = omega arith
  place_next false = omega arith

  pub kept_next : (same : Bool) (next : ℕ) → same ≡ one_by participants line → next ≡ cond same kept.count (kept.count + 1) → Kept participants g (with_it next) (k + 1)
  kept_next same next is counts =
      record {
        places =
            record {
              buyers = length-set kept.buyers kept.count line.buyer ∙ places.buyers;
              elevators = length-set kept.elevators kept.count line.elevator ∙ places.elevators;
              sellers = length-set kept.sellers kept.count line.seller ∙ places.sellers;
              lots = length-set kept.lots kept.count line.lots ∙ places.lots;
            };
        within = omega (arith, here);
        moved_up = omega (arith, so_far.moved_up, counts, place_next same);
        lines = ap (λ (n : ℕ). lines_in (with_it n)) counts ∙ lines_next same (sym is);
      }

-- all of them
pub kept_all : {participants : List ℕ} {g kept : Register} {k : ℕ} → Kept participants g kept k → g.count ≤ k → lines_in kept ≡ kept_by participants (lines_in g)
kept_all {participants} {g} so_far past = so_far.lines ∙ ap (λ (n : ℕ). kept_by participants (listed n (line_in g))) (omega (arith, so_far.within, past))
