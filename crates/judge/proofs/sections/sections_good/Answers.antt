use Rattle.numbers.proofs.Words.{ℕ, ◌+◌, ◌*◌, ◌≤◌, ◌<◌, ◌^◌, arith, ◌≡◌, sym, ap, subst, ◌∙◌, true, lit<, List, ℤ, nat_abs, ◌+ℤ◌, w64, SFits, mag, to_z, of_z, map, eqb, length, take, within, apart, rules}
use Rattle.std.proofs.Math.Facts.{of_z-to_z}
use Rattle.rules.specs.declared.book.{Section.Section, Book.Book}
use Rattle.numbers.proofs.Keys.{Walked, walked_stop, walked_next, walked_all, walked_keys}
use Rattle.numbers.proofs.Lists.{length_mapped, Has}
use Rattle.numbers.proofs.Sums.{Running, running_end, running_fits, running_next}
use Rattle.numbers.proofs.Whole.{read_back}
use Rattle.rules.specs.Book.{held_sections, section_at, position_of, basis_of, section_codes_alike, sums_to_zero, section_good, sections_good}
use Rattle.book_laws.proofs.Good.{section_facts}
use Rattle.book_laws.proofs.Held.{held_length, has_section}
use Rattle.judge.proofs.Laws.{code_key, codes_apart}
use Rattle.judge.proofs.sections.sections_good.Goals as goal
use Rattle.judge.proofs.sections.sections_good.Goals.{Start, In-loop-i}

-- a sum that runs over the sections, as its bits are read
module _ {f : Section → ℤ} {limit : ℕ} {xs : List Section} {bits i : ℕ} (whole : bits < 2 ^ 64) (run : Running f limit xs (of_z w64 (to_z w64 bits)) i) where
  read : Running f limit xs bits i
  read = subst (λ (n : ℕ). Running f limit xs n i) (of_z-to_z {w = w64} (record { fits = whole })) run

  ends : length xs ≤ i → within (to_z w64 bits) 0 ≡ sums_to_zero (map f xs)
  ends h = ap (λ (z : ℤ). within z 0) (running_end read h)

  -- and one section more
  module _ {a : Section} (stored : mag (f a) < 2 ^ 63) (here : Has xs i a) (small : nat_abs (f a) ≤ limit) where
    fits : (most : ℕ) → i < most → limit * most < 2 ^ 63 → SFits w64 (to_z w64 bits +ℤ to_z w64 (of_z w64 (f a)))
    fits most h below = rw (read_back w64 (f a) stored) (running_fits read here small most h below)

    next : (z : ℤ) → z ≡ to_z w64 bits +ℤ to_z w64 (of_z w64 (f a)) → mag z < 2 ^ 63 → Running f limit xs (of_z w64 (to_z w64 (of_z w64 z))) (i + 1)
    next z e h = rw (read_back w64 z h) (running_next read here small z (e ∙ ap (λ (y : ℤ). to_z w64 bits +ℤ y) (read_back w64 (f a) stored)) (record { sfits = h }))

position_small : (trades : ℕ) (s : Section) → section_good trades s ≡ true → nat_abs (position_of s) ≤ 1_000_000
position_small trades s good = (section_facts trades s good).position

basis_small : (trades : ℕ) (s : Section) → section_good trades s ≡ true → trades ≤ 2_000 → nat_abs (basis_of s) ≤ 21_000_000_000_000_000
basis_small trades s good h = omega (arith, (section_facts trades s good).basis)

places : (c : Start) → length c.args.b.sections ≡ 128
places c = search (rules, length_mapped)

here : (c : In-loop-i) → Has (held_sections c.args.b) c.loop-i.i (section_at c.args.b c.loop-i.i)
here c = has_section c.args.b (places c.before.before) (search rules) c.loop-i.i c.loop-i-test.true

count : (c : Start) → length (held_sections c.args.b) ≡ c.args.b.held
count c = held_length c.args.b (places c) (search rules)

past : (c : Start) (i : ℕ) → c.args.b.held ≤ i → length (held_sections c.args.b) ≤ i
past c i h = omega (arith, count c)

pub returns-then-not-section_good : goal.returns-then-not-section_good
unfolding sections_good
returns-then-not-section_good c = simp (walked_stop c.loop-i.invariant.0 (here c.before.before.before) (sym c.section_good.ensures ∙ c.if-not-section_good.true))

pub sum-positions-requires : goal.sum-positions-requires
sum-positions-requires c =
    let good = sym c.section_good.ensures ∙ c.if-not-section_good.false in
    fits c.loop-i.auto.positions.fits c.loop-i.invariant.1 (search) (here c.before.before.before.before.before.before.before) (position_small _ _ good) 128 (omega arith) (lit< tt)

pub sum-bases-requires : goal.sum-bases-requires
sum-bases-requires c =
    let good = sym c.section_good.ensures ∙ c.if-not-section_good.false in
    fits c.loop-i.auto.bases.fits c.loop-i.invariant.2 (search) (here c.before.before.before.before.before.before.before.before) (basis_small _ _ good c.requires.1) 128 (omega arith) (lit< tt)

pub loop-i-preserved : goal.loop-i-preserved
loop-i-preserved c =
    let good = sym c.section_good.ensures ∙ c.if-not-section_good.false in
    let own = here c.before.before.before.before.before.before.before.before.before in (
      walked_next c.loop-i.invariant.0 own good (search rules) c.key.result c.key.ensures.value,
      next c.loop-i.auto.positions.fits c.loop-i.invariant.1 (search) own (position_small _ _ good) c.sum-positions.result c.sum-positions.ensures c.sum-positions.type_inv,
      next c.loop-i.auto.bases.fits c.loop-i.invariant.2 (search) own (basis_small _ _ good c.requires.1) c.sum-bases.result c.sum-bases.ensures c.sum-bases.type_inv,
    )

-- what the walk over the codes comes to
codes_judged : (b : Book) {was codes : List ℕ} {i : ℕ} → Walked (section_good b.trades) code_key (held_sections b) was codes i → length (held_sections b) ≤ i → length (held_sections b) ≡ b.held → apart eqb (take b.held codes) ≡ apart section_codes_alike (held_sections b)
codes_judged b walked past long = ap (apart eqb) (walked_keys walked past b.held long) ∙ sym (codes_apart b.trades (held_sections b) (walked_all walked past))

pub returns-then-not-apart : goal.returns-then-not-apart
unfolding sections_good
returns-then-not-apart c =
    let start = c.before.before.before.before.before in
    let over = past start c.loop-i.i c.loop-i-test.false in
    let walked = c.loop-i.invariant.0 in
    simp (walked_all walked over, sym (c.apart.ensures ∙ codes_judged c.args.b walked over (count start)) ∙ c.if-not-apart.true)

pub returns-then-not-within : goal.returns-then-not-within
unfolding sections_good
returns-then-not-within c =
    let start = c.before.before.before.before.before.before.before in
    let over = past start c.loop-i.i c.loop-i-test.false in
    let walked = c.loop-i.invariant.0 in
    simp (
      walked_all walked over,
      sym (c.apart.ensures ∙ codes_judged c.args.b walked over (count start)) ∙ c.if-not-apart.false,
      sym (c.within.ensures ∙ ends c.loop-i.auto.positions.fits c.loop-i.invariant.1 over) ∙ c.if-not-within.true,
    )

pub returns : goal.returns
unfolding sections_good
returns c =
    let start = c.before.before.before.before.before.before.before.before in
    let over = past start c.loop-i.i c.loop-i-test.false in
    let walked = c.loop-i.invariant.0 in
    simp (
      walked_all walked over,
      sym (c.apart.ensures ∙ codes_judged c.args.b walked over (count start)) ∙ c.if-not-apart.false,
      sym (c.within.ensures ∙ ends c.loop-i.auto.positions.fits c.loop-i.invariant.1 over) ∙ c.if-not-within.false,
    ) (c.within-2.ensures ∙ ends c.loop-i.auto.bases.fits c.loop-i.invariant.2 over)
