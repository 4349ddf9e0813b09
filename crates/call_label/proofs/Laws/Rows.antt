-- How many bytes the rows of a listing have, and what the walks over them keep.
use Rattle.numbers.proofs.Words.{ℕ, zero, suc, ◌+◌, ◌*◌, ◌≤◌, ◌<◌, arith, zero-add, add-one, ◌≡◌, refl, subst, ap, ◌∙◌, Bool, true, false, cond, List, length, length-append, every, counted, listed, entry, gathered, total, flat_map, drop}
use Rattle.std.specs.Prelude.{Some, None}
use Rattle.numbers.proofs.Sums.{naturals}
use Rattle.numbers.proofs.Lists.{Has, has, every_next, every_stop, every_end}
use Rattle.numbers.proofs.Ranges.{counted-length, counted_at, sum_more}
use Rattle.rules.specs.declared.book.{Book.Book}
use Rattle.rules.specs.Book.{section_at}
use Rattle.rules.specs.Expiry.Call.{Lists}
use Rattle.rules.specs.File.{Lent}
use Rattle.rules.specs.Listing.{row, line_row, section_row, listing_bytes}
use Rattle.listing.specs.Columns.{head_row}
use Rattle.listing.proofs.Laws.Rows.{texts, texts_more}
use Rattle.call_label.specs.Lengths.{line_length, lines_length, section_at_length, sections_length}

-- the rows of a book whose codes have seven bytes (01, Program, 1 and 3)
pub line_length_lem : (b : Book) (ls : Lists) (i : ℕ) → length (section_at b (entry ls.buyers i)).code ≡ 7 → length (section_at b (entry ls.sellers i)).code ≡ 7
    → length (line_row b ls i) ≡ line_length b.lot (entry ls.elevators i) (entry ls.lots i)
unfolding line_row row
line_length_lem b ls i buyer seller = simp length-append (omega (arith, buyer, seller))

pub section_length_lem : (b : Book) (lent : Lent) (i : ℕ) → length (section_at b i).code ≡ 7
    → length (section_row b lent i) ≡ section_at_length lent i
unfolding section_row row
section_length_lem b lent i code = simp length-append (omega (arith, code))

-- texts by number have as many bytes as all of them together
texts_total : (f : ℕ → List ℕ) (g : ℕ → ℕ) (n : ℕ) → ((i : ℕ) → i < n → length (f i) ≡ g i) → length (texts f n) ≡ total (listed n g)
unfolding counted gathered flat_map
texts_total f g zero h = refl
texts_total f g (suc n) h =
    ap length (texts_more f n) ∙ length-append (texts f n) (f n) ∙ omega (arith, texts_total f g n (λ i k. h i (omega (arith, k))), h n (omega arith), sum_more ◌+◌ 0 naturals n g)

-- a listing, part by part, as the code finds its parts
pub listing_length : (b : Book) (lent : Lent) (n : ℕ) → ((i : ℕ) → i < b.held → length (section_at b i).code ≡ 7) → ((i : ℕ) → i < n → (entry lent.lists.buyers i < b.held) × (entry lent.lists.sellers i < b.held))
    → {head lines sections : ℕ} → head ≡ length (head_row n) → lines ≡ lines_length b.lot lent.lists n
    → sections ≡ sections_length lent b.held → head + lines + sections ≡ length (listing_bytes b n lent)
unfolding listing_bytes
listing_length b lent n codes named head-is lines_are sections-are =
    simp length-append
    (omega (
      arith,
      head-is,
      lines_are,
      sections-are,
      texts_total (line_row b lent.lists) _ n (λ i h. line_length_lem b lent.lists i (codes _ (named i h).0) (codes _ (named i h).1)),
      texts_total (section_row b lent) _ b.held (λ i h. section_length_lem b lent i (codes i h)),
    ))

-- what a walk keeps: the bytes of the first i rows, each of at most so many
pub record Added (f : ℕ → ℕ) (most bytes i : ℕ) : Type 0 where
  pub all : bytes ≡ total (listed i f)
  pub few : bytes ≤ i * most

pub added_none : (f : ℕ → ℕ) (most : ℕ) → Added f most 0 0
unfolding counted gathered
added_none f most = record { all = refl; few = omega arith }

pub added_next : {f : ℕ → ℕ} {most bytes i : ℕ} → Added f most bytes i → {more : ℕ} → more ≡ f i → more ≤ most → Added f most (bytes + more) (i + 1)
added_next {f} {most} {bytes} {i} a {more} e h =
    record { all = rw (add-one i) (omega (arith, a.all, e, sum_more ◌+◌ 0 naturals i f)); few = omega (arith, a.few, e, h) }

-- and that the rows from here on decide whether all are fit (02, m, 4)
pub record Judged (fit : ℕ → Bool) (n i : ℕ) : Type 0 where
  pub place : i ≤ n
  pub rest : every fit (counted 0 n) ≡ every fit (drop i (counted 0 n))

pub judged_none : (fit : ℕ → Bool) (n : ℕ) → Judged fit n 0
judged_none fit n = record { place = omega arith; rest = refl }

module _ {fit : ℕ → Bool} {n i : ℕ} (j : Judged fit n i) where
  here : i < n → Has (counted 0 n) i (0 + i)
  here h = subst (Has (counted 0 n) i) (counted_at 0 n i 0 h) (has (counted 0 n) i 0 (omega (arith, h, counted-length 0 n)))

  pub judged_next : i < n → fit i ≡ true → Judged fit n (i + 1)
  judged_next h e = record { place = omega (arith, h); rest = j.rest ∙ every_next (here h) fit (ap fit (zero-add i) ∙ e) }

  pub judged_stop : i < n → fit i ≡ false → every fit (counted 0 n) ≡ false
  judged_stop h e = j.rest ∙ every_stop (here h) fit (ap fit (zero-add i) ∙ e)

  pub judged_end : n ≤ i → every fit (counted 0 n) ≡ true
  judged_end h = j.rest ∙ every_end (counted 0 n) i (omega (arith, h, counted-length 0 n)) fit

-- rows that are counted are fit, and the others are not
pub none_counted : (fit : Bool) (n : ℕ) → None ≡ cond fit (Some n) None → fit ≡ false
none_counted true n e = cc
none_counted false n e = refl

pub some_counted : (fit : Bool) (n m : ℕ) → Some m ≡ cond fit (Some n) None → (fit ≡ true) × (m ≡ n)
some_counted true n m e = (refl, cc)
some_counted false n m e = cc
