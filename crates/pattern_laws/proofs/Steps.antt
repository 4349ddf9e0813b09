-- What the steps of expiry deliver does not depend on the mark of a section with no position (02, n, 4).
use Rattle.numbers.proofs.Words.{ℕ, ◌≡◌, refl, Bool, true, false, not, cond, ◌||◌, List, map, map-map, length, length-map, eqb, eqb-true, ℤ, ◌and◌}
use mathlib.Core.Path.{fun_ext}
use Rattle.rules.specs.declared.book.{Section.Section, Notice.Notice}
use Rattle.rules.specs.Calls.{marked}
use Rattle.rules.specs.Expiry.{size, lower_section_code, net_of_code, shares_in_codes}
use Rattle.rules.specs.Expiry.Failing.{fails, failing}
use Rattle.rules.specs.Expiry.Codes.{d_of_codes, given_in_codes}
use Rattle.rules.specs.Expiry.Across.{d_overall, code_cap, given_across}
use Rattle.rules.specs.Expiry.Outside.{outside}
use Rattle.rules.specs.Expiry.Drawing.{drawn}
use Rattle.rules.specs.Expiry.Passes.{inside_pass, outside_pass, pairs_of, lines_of}
use Rattle.rules.specs.Expiry.SamePerson.{same_person, removed_of, lapsed_of}
use Rattle.rules.specs.Expiry.Call.{remaining, passes, lines, lapsed, delivered}
use Rattle.pattern_laws.proofs.Plain.{plain, plain_at}

-- what fails by its mark: with no lots, nothing, whichever the mark
fails_alike : (met also : Bool) (lots : ℕ) → cond (not (met and not (eqb lots 0)) || also) lots 0 ≡ cond (not met || also) lots 0
fails_alike met also lots = go met also (eqb lots 0) refl
  where
    go : (m a t : Bool) → eqb lots 0 ≡ t → cond (not (m and not t) || a) lots 0 ≡ cond (not m || a) lots 0
    go false a t e = refl
    go true a false e = refl
    go true true true e = refl
    go true false true e = eqb-true lots 0 e

-- the sections with such marks taken off, definition by definition of the method: each reads what they still have
module _ (ss : List Section) where
  abbrev ps : List Section
  ps = map plain ss

  long : length ps ≡ length ss
  long = length-map ss plain

  sizes_plain : map size ps ≡ map size ss
  unfolding marked
  sizes_plain = map-map size plain ss

  -- step 1: the lots that fail (01, Expiry, 1.2)
  failing_plain : (ns : List Notice) → failing ps ns ≡ failing ss ns
  unfolding failing fails marked
  failing_plain ns = simp (long, plain_at ss, fails_alike)

  -- the net of a settlement code, and those of all (01, Expiry, 2.1)
  net_plain : (lots : List ℕ) (c : ℕ) → net_of_code ps lots c ≡ net_of_code ss lots c
  unfolding net_of_code marked
  net_plain lots c = simp (long, plain_at ss)

  nets_plain : (lots : List ℕ) → net_of_code ps lots ≡ net_of_code ss lots
  nets_plain lots = fun_ext (net_plain lots)

  -- what each section gives where every settlement code wants lots (01, Expiry, 2.2)
  shares_plain : (sooner : ℕ → ℕ → Bool) (lots : List ℕ) (wanted : ℕ → ℕ) → shares_in_codes sooner ps lots wanted ≡ shares_in_codes sooner ss lots wanted
  unfolding shares_in_codes marked
  shares_plain sooner lots wanted = simp (long, plain_at ss)

  -- step 2 (01, Expiry, 2.2)
  given_plain : (gap : List ℤ) (sound : List ℕ) → given_in_codes ps gap sound ≡ given_in_codes ss gap sound
  unfolding given_in_codes marked
  given_plain gap sound = simp (long, plain_at ss, shares_plain)

  -- step 3 (01, Expiry, 3.2 and 3.3)
  cap_plain : (d : ℤ) (left : List ℕ) → code_cap ps d left ≡ code_cap ss d left
  unfolding code_cap
  cap_plain d left = fun_ext λ c. simp net_plain

  across_plain : (d : ℤ) (left : List ℕ) → given_across ps d left ≡ given_across ss d left
  unfolding given_across marked
  across_plain d left = simp (long, plain_at ss, shares_plain, cap_plain)

  -- what the method leaves each section (01, Expiry, 1.2)
  remaining_plain : (ns : List Notice) → remaining ps ns ≡ remaining ss ns
  unfolding remaining d_of_codes d_overall
  remaining_plain ns = simp (failing_plain, sizes_plain, net_plain, nets_plain, given_plain, across_plain)

  -- steps 5 and 4 (01, Expiry, 5.1; 01, Expiry, 4.1)
  drawn_plain : (ns : List Notice) (lots : List ℕ) → drawn ps ns lots ≡ drawn ss ns lots
  unfolding drawn marked
  drawn_plain ns lots = simp (plain_at ss)

  outside_plain : (left : List ℕ) → outside ps left ≡ outside ss left
  unfolding outside marked
  outside_plain left = simp (long, plain_at ss, nets_plain, shares_plain)

  -- step 6: the passes, and the lines of each (01, Expiry, 6.1 and 6.3)
  inside_plain : (ns : List Notice) (near drawn : List ℕ) → inside_pass ps ns near drawn ≡ inside_pass ss ns near drawn
  unfolding inside_pass marked
  inside_plain ns near drawn = fun_ext λ c. simp (long, plain_at ss)

  passes_plain : (ns : List Notice) (left : List ℕ) → passes ps ns left ≡ passes ss ns left
  unfolding passes outside_pass marked
  passes_plain ns left = simp (long, plain_at ss, drawn_plain, outside_plain, inside_plain)

  lower_plain : lower_section_code ps ≡ lower_section_code ss
  unfolding marked
  lower_plain = fun_ext λ i. fun_ext λ j. simp (plain_at ss)

  lines_plain : (ns : List Notice) → lines_of ps ns ≡ lines_of ss ns
  unfolding lines_of pairs_of
  lines_plain ns = fun_ext λ pass. simp (long, lower_plain)

  -- who is one person (02, a, 1)
  person_plain : same_person ps ≡ same_person ss
  unfolding marked
  person_plain = fun_ext λ l. simp (plain_at ss)

  -- so what each section delivers is the same (02, a, 5)
  pub delivered_plain : (ns : List Notice) → delivered ps ns ≡ delivered ss ns
  unfolding delivered lapsed lines lapsed_of removed_of
  delivered_plain ns = simp (long, remaining_plain, passes_plain, lines_plain, person_plain)
