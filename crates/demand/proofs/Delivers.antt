-- What an accepted expiry delivers, given trades whose nets are the book's positions (demand 3.2 to 3.4).
use Rattle.numbers.proofs.Words.{ℕ, ◌+◌, ◌≤◌, ◌<◌, arith, ◌≡◌, sym, ap, ap₂, ◌∙◌, Bool, true, false, cond, ◌&&◌, ◌||◌, List, ⊎_elim, eqb, ltb, leb, length, get_or-take, ℤ, nat_abs, eq-eqb, lt-ltb, le-ltb, ltb-true, leb-true, ◌and◌, listed, entry, total, many}
use Rattle.rules.specs.declared.book.{Book.Book, Section.Section, Notice.Notice}
use Rattle.numbers.proofs.Sums.{naturals}
use Rattle.numbers.proofs.Lists.{every_at, apart_at}
use Rattle.numbers.proofs.Counts.{many-same}
use Rattle.numbers.proofs.Ranges.{sum_same, sum_one, chosen_yes, chosen_no}
use Rattle.numbers.proofs.Tests.{and_left, and_right, eqb_sym, below_or_not, same_or_not}
use Rattle.rules.specs.Book.{good, section_at, notice_at, section_of, notice_of, held_sections, filed_notices, position_of, notices_alike, notice_good}
use Rattle.rules.specs.Calls.{first}
use Rattle.rules.specs.Expiry.{is_long}
use Rattle.rules.specs.Expiry.Passes.{Line}
use Rattle.rules.specs.Expiry.Call.{Lists, remaining, lines, kept, expiry_refusals}
use Rattle.rules.specs.Expiry.SamePerson.{lots_naming}
use Rattle.rules.specs.History.{Trade, net, Delivered, Register, drawn_lots, line_limit}
use Rattle.book_laws.proofs.Good.{Good, facts}
use Rattle.book_laws.proofs.Held.{held_length, filed_length, held_codes, held_told}
use Rattle.method_laws.proofs.Shares.{Told}
use Rattle.method_laws.proofs.StageTwo.{line_lots}
use Rattle.method_laws.proofs.Delivery
use Rattle.method_laws.proofs.Removal
use Rattle.demand.proofs.Written

-- one of two numbers is above 0 where their sum is
some_left : (n m k : ℕ) → n + m ≡ k → (ltb 0 n || ltb 0 m) ≡ ltb 0 k
some_left n m k e =
    ⊎_elim (λ (some : 0 < n). ap (λ (t : Bool). t || ltb 0 m) (lt-ltb 0 n some) ∙ sym (lt-ltb 0 k (omega (arith, e, some))))
    (λ (none : n ≤ 0). let same : m ≡ k = omega (arith, e, none) in ap₂ (λ (t : Bool) (l : ℕ). t || ltb 0 l) (le-ltb 0 n none) same)
    (below_or_not 0 n)

module _ (b : Book) (ls : Lists) (all : List Trade) (sound : good b ≡ true) (accepted : first (expiry_refusals b ls) ≡ 0) (nets : (i : ℕ) → net all i ≡ position_of (section_at b i)) where
  abbrev ss : List Section
  ss = held_sections b

  abbrev ns : List Notice
  ns = filed_notices b

  book : Good b
  book = facts b sound

  held : length ss ≡ b.held
  held = held_length b book.section_places_lem book.held

  filed : length ns ≡ b.filed
  filed = filed_length b book.notice_places_lem book.filed

  -- a section held and a notice filed are those of the book's places
  section_is : (i : ℕ) → i < length ss → section_of ss i ≡ section_at b i
  section_is i h = get_or-take b.held b.sections i _ (omega (arith, h, held))

  notice_is : (k : ℕ) → k < length ns → notice_of ns k ≡ notice_at b k
  notice_is k h = get_or-take b.filed b.notices k _ (omega (arith, h, filed))

  codes : (i : ℕ) → i < length ss → (section_of ss i).settlement < 64
  codes = held_codes b book

  told : Told ss
  told = held_told b book

  noticed : (k : ℕ) → k < length ns → notice_good b.held (notice_of ns k) ≡ true
  noticed k h = every_at (notice_good b.held) ns k _ book.notices h

  sections : (k : ℕ) → k < length ns → (notice_of ns k).section < length ss
  unfolding notice_good
  sections k h = omega (arith, held, ltb-true (notice_of ns k).section b.held (and_left (ltb (notice_of ns k).section b.held) _ (noticed k h)))

  elevators : (k : ℕ) → k < length ns → (notice_of ns k).elevator < 32
  unfolding notice_good
  elevators k h = omega (arith, leb-true (notice_of ns k).elevator 31 (and_left (leb (notice_of ns k).elevator 31) _ (and_right (ltb (notice_of ns k).section b.held) _ (noticed k h))))

  -- what is drawn of notice k, inside and outside
  abbrev drawn_of : ℕ → ℕ
  drawn_of k = Delivery.drawn_at ss ns codes told book.positions sections elevators k

  -- no other notice has its section and its elevator
  abbrev alike : ℕ → ℕ → Bool
  alike n k = eqb (notice_of ns k).section (notice_of ns n).section && eqb (notice_of ns k).elevator (notice_of ns n).elevator

  alone : (n k : ℕ) → n < length ns → k < length ns → (n ≡ k → ⊥) → alike n k ≡ false
  alone n k hn hk ne =
      ⊎_elim (λ (l : k < n). apart_at notices_alike ns _ k n book.notices_apart l hn)
      (λ (l : n ≤ k).
      ap₂ ◌&&◌ (eqb_sym (notice_of ns k).section (notice_of ns n).section) (eqb_sym (notice_of ns k).elevator (notice_of ns n).elevator)
      ∙ apart_at notices_alike ns _ n k book.notices_apart (omega (arith, l, ne)) hk)
      (below_or_not k n)

  only_it : (n : ℕ) → n < length ns → total (listed (length ns) (λ (k : ℕ). cond (alike n k) (drawn_of k) 0)) ≡ drawn_of n
  only_it n h = sum_same ◌+◌ 0 naturals (length ns) _ _ (λ k l. ⊎_elim (here k) (λ ne. ap (λ (t : Bool). cond t (drawn_of k) 0) (alone n k h l ne) ∙ sym (chosen_no n k (drawn_of n) 0 ne)) (same_or_not n k)) ∙ sum_one ◌+◌ 0 naturals (length ns) n (drawn_of n) h
    where
      here : (k : ℕ) → n ≡ k → cond (alike n k) (drawn_of k) 0 ≡ cond (eqb n k) (drawn_of n) 0
      here k e = ap (λ (t : Bool). cond t (drawn_of k) 0) (ap₂ ◌&&◌ (eq-eqb (notice_of ns k).section (notice_of ns n).section (ap (λ (j : ℕ). (notice_of ns j).section) (sym e))) (eq-eqb (notice_of ns k).elevator (notice_of ns n).elevator (ap (λ (j : ℕ). (notice_of ns j).elevator) (sym e)))) ∙ ap drawn_of (sym e) ∙ sym (chosen_yes n k (drawn_of n) 0 e)

  -- a notice's drawn lots in the lines formed (01, Calls, 9; 02, a, 7)
  drawn_lots_lem : (n : ℕ) → n < length ns → drawn_lots (Written.written b ls accepted) n ≡ drawn_of n
  unfolding drawn_lots
  drawn_lots_lem n h =
      ap (λ (m : Notice). line_lots (λ (l : Line). eqb l.seller m.section && eqb l.elevator m.elevator) (lines ss ns)) (sym (notice_is n h))
      ∙ Delivery.noticed_lots ss ns codes told book.positions sections elevators (λ (s e : ℕ). eqb s (notice_of ns n).section && eqb e (notice_of ns n).elevator)
      ∙ only_it n h

  abbrev register : Register
  register = Written.written b ls accepted

  -- what a section delivers and what lapses of it are what the method leaves it (02, a, 5)
  both_left : (i : ℕ) → i < length ss → entry register.lists.delivered i + entry register.lists.lapsed i ≡ entry (remaining ss ns) i
  both_left i h =
      let place : i < b.held = omega (arith, h, held) in
      omega (arith, Written.written_delivered b ls accepted i place, Written.written_lapsed b ls accepted i place, Removal.delivered_lapsed ss ns codes told book.positions sections elevators i h)

  -- long sections that deliver or have lapsed lots, and drawn notices, counted as the list of calls sees them and as the method does (01, Calls, 6 and 9; 02, a, 7)
  longs :
      many b.held (λ (i : ℕ). is_long (net all i) and (ltb 0 (entry register.lists.delivered i) || ltb 0 (entry register.lists.lapsed i))) ≡
      many (length ss) (λ (i : ℕ). is_long (position_of (section_of ss i)) and ltb 0 (entry (remaining ss ns) i))
  longs =
      ap (λ (n : ℕ). many n (λ (i : ℕ). is_long (net all i) and (ltb 0 (entry register.lists.delivered i) || ltb 0 (entry register.lists.lapsed i)))) (sym held)
      ∙ many-same (length ss) _ _ (λ i h. ap₂ (λ (p : ℤ) (t : Bool). is_long p && t) (nets i ∙ ap position_of (sym (section_is i h))) (some_left _ _ _ (both_left i h)))

  drawns : many b.filed (λ (n : ℕ). ltb 0 (drawn_lots register n)) ≡ many (length ns) (λ (k : ℕ). ltb 0 (drawn_of k))
  drawns =
      ap (λ (n : ℕ). many n (λ (k : ℕ). ltb 0 (drawn_lots register k))) (sym filed)
      ∙ many-same (length ns) _ _ (λ k h. ap (ltb 0) (drawn_lots_lem k h))

  pub delivers : Delivered all register
  unfolding kept line_limit
  delivers =
      record {
        made_up = λ i h. omega (arith, both_left i (omega (arith, h, held)), Written.made_up b ls accepted i h, ap nat_abs (nets i));
        register_is = Written.written_register b ls accepted;
        counted_all = Written.written_lines b ls accepted;
        registered =
            λ i h.
            ap (λ (ls : List Line). lots_naming ls i) (Written.written_register b ls accepted)
            ∙ Removal.kept_lots ss ns codes told book.positions sections elevators i (omega (arith, h, held))
            ∙ sym (Written.written_delivered b ls accepted i h);
        drawn_within =
            λ n h.
            let filed_too : n < length ns = omega (arith, h, filed) in
            omega (arith, drawn_lots_lem n filed_too, Delivery.both_within ss ns codes told book.positions sections elevators n, ap (λ (m : Notice). nat_abs m.lots.0) (notice_is n filed_too));
        lines_within = λ more. omega (arith, Written.written_lines b ls accepted, longs, drawns, Delivery.lines_below ss ns codes told book.positions sections elevators (omega (arith, more, Written.written_lines b ls accepted)));
      }
