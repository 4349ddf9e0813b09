-- Lines taken out: the lots of a section in the lines kept are those it delivers, and what lapses of it was bought or sold in the others (document 02, a).
use Rattle.numbers.proofs.Words.{ℕ, ◌+◌, ◌≤◌, ◌<◌, arith, ◌≡◌, refl, ap, ◌∙◌, Bool, true, false, not, cond, ◌&&◌, ◌||◌, List, [], ◌∷◌, map, ⊎_elim, eqb, length, pos, entry, passing, gathered, total_ℤ}
use Rattle.rules.specs.declared.book.{Section.Section, Notice.Notice}
use Rattle.numbers.proofs.Ranges.{listed_at, less_at}
use Rattle.rules.specs.Book.{elevators, settlement_codes, position_of, section_of, notice_of}
use Rattle.rules.specs.Expiry.Passes.{Line}
use Rattle.rules.specs.Expiry.SamePerson.{same_person, removed_of, kept_of, lots_naming, lapsed_of}
use Rattle.rules.specs.Expiry.Call.{remaining, lines, kept, lapsed, delivered}
use Rattle.method_laws.proofs.Shares.{Told}
use Rattle.method_laws.proofs.StageTwo.{line_lots}
use Rattle.method_laws.proofs.Register.{either_lots}
use Rattle.method_laws.proofs.Delivery

-- the lots of some lines, of those that pass a test and of the others
module _ (read test : Line → Bool) where
  abbrev passed : List Line → List Line
  passed ls = passing test ls

  abbrev failed : List Line → List Line
  failed ls = passing (λ (l : Line). not (test l)) ls

  pub lots_passing : (ls : List Line) → line_lots read (passed ls) ≡ line_lots (λ (l : Line). read l && test l) ls
  unfolding passing gathered
  lots_passing [] = refl
  lots_passing (l ∷ ls) = go (read l) (test l) refl (lots_passing ls)
    where
      go : (r t : Bool) → read l ≡ r → {both : ℕ} → line_lots read (passed ls) ≡ both → line_lots read (cond t (l ∷ passed ls) (passed ls)) ≡ cond (r && t) l.lots 0 + both
      go true true e before = omega (arith, before, ap (λ (r : Bool). cond r l.lots 0) e)
      go true false e before = omega (arith, before)
      go false true e before = omega (arith, before, ap (λ (r : Bool). cond r l.lots 0) e)
      go false false e before = omega (arith, before)

  pub lots_parted : (ls : List Line) → line_lots read (passed ls) + line_lots read (failed ls) ≡ line_lots read ls
  unfolding passing gathered
  lots_parted [] = refl
  lots_parted (l ∷ ls) = go (test l) (lots_parted ls)
    where
      go : (t : Bool) → line_lots read (passed ls) + line_lots read (failed ls) ≡ line_lots read ls →
          line_lots read (cond t (l ∷ passed ls) (passed ls)) + line_lots read (cond (not t) (l ∷ failed ls) (failed ls)) ≡ cond (read l) l.lots 0 + line_lots read ls
      go true before = omega (arith, before)
      go false before = omega (arith, before)

-- the lines that name a section
abbrev naming : ℕ → Line → Bool
naming i l = eqb l.buyer i || eqb l.seller i

module _ (ss : List Section) (ns : List Notice) (codes : (i : ℕ) → i < length ss → (section_of ss i).settlement < settlement_codes) (told : Told ss) (even : total_ℤ (map position_of ss) ≡ pos 0)
    (sections : (k : ℕ) → k < length ns → (notice_of ns k).section < length ss) (standing : (k : ℕ) → k < length ns → (notice_of ns k).elevator < elevators) (i : ℕ) (h : i < length ss) where
  -- the lots taken out and the lots kept are all that a section is left with (02, a, 5)
  parted : lots_naming (removed_of ss (lines ss ns)) i + lots_naming (kept ss ns) i ≡ entry (remaining ss ns) i
  unfolding lots_naming removed_of kept_of kept
  parted = lots_parted (naming i) (same_person ss) (lines ss ns) ∙ Delivery.registered ss ns codes told even sections standing i h

  pub lapsed_at : entry (lapsed ss ns) i ≡ lots_naming (removed_of ss (lines ss ns)) i
  unfolding lapsed lapsed_of
  lapsed_at = listed_at (length ss) _ i 0 h

  -- so no more lapses than that, and the rest is delivered
  pub lapsed_within : entry (lapsed ss ns) i ≤ entry (remaining ss ns) i
  lapsed_within = omega (arith, lapsed_at, parted)

  pub delivered_lapsed : entry (delivered ss ns) i + entry (lapsed ss ns) i ≡ entry (remaining ss ns) i
  unfolding delivered
  delivered_lapsed = omega (arith, less_at (remaining ss ns) (lapsed ss ns) i, lapsed_within)

  -- which are its lots in the register (01, Calls, 8; demand 3.2)
  pub kept_lots : lots_naming (kept ss ns) i ≡ entry (delivered ss ns) i
  kept_lots = omega (arith, delivered_lapsed, lapsed_at, parted)

  -- what lapses was bought or sold: a section does not do both (02, a, 4)
  pub lapsed_sides :
      line_lots (λ (l : Line). eqb l.buyer i && same_person ss l) (lines ss ns) + line_lots (λ (l : Line). eqb l.seller i && same_person ss l) (lines ss ns) ≡
      lots_naming (removed_of ss (lines ss ns)) i
  unfolding lots_naming removed_of
  lapsed_sides =
      let bought : Line → Bool = λ (l : Line). eqb l.buyer i in
      let sold : Line → Bool = λ (l : Line). eqb l.seller i in
      let all = lines ss ns in
      let in_both = either_lots bought sold (passing (same_person ss) all) in
      ⊎_elim
      (λ (none : line_lots sold all ≡ 0). omega (arith, none, in_both, lots_passing bought (same_person ss) all, lots_passing sold (same_person ss) all, lots_parted sold (same_person ss) all))
      (λ (none : line_lots bought all ≡ 0). omega (arith, none, in_both, lots_passing bought (same_person ss) all, lots_passing sold (same_person ss) all, lots_parted bought (same_person ss) all))
      (Delivery.one_sided ss ns codes told even sections standing i h)
