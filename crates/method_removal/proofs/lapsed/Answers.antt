-- The lots of the lines taken out, then the two sums.
use Rattle.numbers.proofs.Words.{ℕ, List, arith, ◌≡◌, ◌≤◌, refl, ap, ◌∙◌, ◌++◌, length, length-replicate, take, drop, replicate, rules}
use Rattle.numbers.proofs.Entries.{noughts_known}
use Rattle.numbers.proofs.Front.{front_of}
use Rattle.method_passes.specs.declared.register.{Register.Register}
use Rattle.method_passes.proofs.Arrays.{Places}
use Rattle.method_removal.specs.Removed.{removed_by}
use Rattle.method_removal.proofs.Lapsing.{side_asked, first_length, first_within, lapsed_all}
use Rattle.method_removal.proofs.lapsed.Goals as goal

-- the front of the local list
gone_is : (participants : List ℕ) (g : Register) (gone : List ℕ) → g.count ≤ 382 → length gone ≡ length (take g.count (replicate {A = ℕ} 382 0)) → gone ≡ removed_by participants g
    → take g.count (gone ++ drop g.count (replicate 382 0)) ≡ removed_by participants g
gone_is participants g gone few kept is = (front_of _ _ gone few kept).is ∙ is

-- of buyers and of sellers the same is known: either may be added up
pub add-requires-clause-small : goal.add-requires-clause-small
add-requires-clause-small c =
    let places : Places c.args.g = record { buyers = search rules; elevators = search rules; sellers = search rules; lots = search rules } in
    let known = c.requires.0 in
    let n = length c.args.participants.now in
    (side_asked known _ places.buyers (gone_is _ c.args.g _ known.few c.removed_lots.auto.gone c.removed_lots.ensures) c.args.sums.now known.buyers
    (ap length c.requires.1 ∙ length-replicate n 0)
    (λ i. omega (arith, noughts_known n c.requires.1 i))).1

pub add-requires-2-clause-small : goal.add-requires-2-clause-small
add-requires-2-clause-small c =
    let places : Places c.args.g = record { buyers = search rules; elevators = search rules; sellers = search rules; lots = search rules } in
    let known = c.requires.0 in
    let is = gone_is _ c.args.g _ known.few c.removed_lots.auto.gone c.removed_lots.ensures in
    (side_asked known _ places.sellers is c.add.new.sums known.sellers
    (first_length known places c.requires.1 is c.add.ensures)
    (first_within known places c.requires.1 is c.add.ensures)).1

pub returns : goal.returns
returns c =
    let places : Places c.args.g = record { buyers = search rules; elevators = search rules; sellers = search rules; lots = search rules } in
    let known = c.requires.0 in
    lapsed_all known places c.requires.1 (gone_is _ c.args.g _ known.few c.removed_lots.auto.gone c.removed_lots.ensures) c.add.ensures _ c.add-2.ensures refl
