-- The keys of the sections held stand in a local list, and so do the sections that the arguments mean.
use Rattle.numbers.proofs.Words.{◌≡◌, ◌≤◌, true, arith, refl, sym, ◌∙◌, List, take, length, replicate, length-take-le, rules}
use Rattle.numbers.proofs.Front.{Front, front_of}
use Rattle.io.proofs.Counting.{prefix_len_of_le}
use Rattle.rules.specs.declared.book.{Book.Book}
use Rattle.rules.specs.Book.{good}
use Rattle.book_laws.proofs.Good.{facts}
use Rattle.failures.proofs.Laws.Resolving.{row_prints}
use Rattle.failures.proofs.answered.Goals as goal

held_most : (b : Book) → good b ≡ true → b.held ≤ 128
held_most b h = (facts b h).held

held_long : {A : Type 0} (b : Book) → good b ≡ true → (places : List A) → length places ≡ 128 → b.held ≡ length (take b.held places)
held_long b h places e = sym (length-take-le _ places (omega (arith, e, held_most b h)))

pub slice_bounds-codes-end : goal.slice_bounds-codes-end
slice_bounds-codes-end g c = held_most _ c.requires.0

pub slice_bounds-fill-end : goal.slice_bounds-fill-end
slice_bounds-fill-end g c = held_long _ c.requires.0 _ (search rules)

pub slice_bounds-positions-end : goal.slice_bounds-positions-end
slice_bounds-positions-end g c = held_most _ c.requires.0

pub slice_bounds-fill-end-2 : goal.slice_bounds-fill-end-2
slice_bounds-fill-end-2 g c = held_long _ c.requires.0 _ (search rules)

pub slice_bounds-keys-end : goal.slice_bounds-keys-end
slice_bounds-keys-end g c = held_most _ c.requires.0

pub slice_bounds-fill-end-3 : goal.slice_bounds-fill-end-3
slice_bounds-fill-end-3 g c = held_long _ c.requires.0 _ (search rules)

pub fill-requires : goal.fill-requires
fill-requires g c =
    (c.requires.0, sym (held_long _ c.requires.0 _ (search rules)), sym (held_long _ c.requires.0 _ (search rules)), sym (held_long _ c.requires.0 _ (search rules)))

-- the keys are filled
pub slice_bounds-keys-end-2 : goal.slice_bounds-keys-end-2
slice_bounds-keys-end-2 g c = let keys : Front c.args.b.held (replicate 128 0) c.fill.new.keys = front_of _ _ _ (held_most _ c.requires.0) c.fill.auto.keys in keys.fits

pub slice_bounds-resolve-end : goal.slice_bounds-resolve-end
slice_bounds-resolve-end g c = let keys : Front c.args.b.held (replicate 128 0) c.fill.new.keys = front_of _ _ _ (held_most _ c.requires.0) c.fill.auto.keys in sym keys.long

-- and the arguments resolved
pub returns : goal.returns
returns g c =
    let keys : Front c.args.b.held (replicate 128 0) c.fill.new.keys = front_of _ _ _ (held_most _ c.requires.0) c.fill.auto.keys in
    let meant : Front c.args.count (replicate 256 0) c.resolve.new.meant = front_of _ _ _ c.requires.2 c.resolve.auto.meant in
    row_prints c.args.b c.requires.0 c.requires.1 (prefix_len_of_le _ _ (omega (arith, c.printed.ensures.upper_bound, c.requires.3, c.printed.auto.out)))
    (keys.is ∙ c.fill.ensures.keys_after) _ c.resolve.ensures meant.full _ _ c.printed.ensures.laid refl refl
