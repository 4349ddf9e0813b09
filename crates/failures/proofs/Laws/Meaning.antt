-- The keys of a good book's sections give the section that a word means.
use Rattle.numbers.proofs.Words.{ℕ, zero, suc, ◌+◌, ◌≤◌, ◌<◌, arith, ◌≡◌, refl, sym, ap, ap₂, ◌∙◌, Bool, true, cond, List, [], ◌∷◌, eqb, eq-eqb, ne_eqb, ltb, lt-ltb, le-ltb, length, length-map, get_or-map, get_or, get_or-take, passing, counted, entry, same, big_endian, ◌and◌}
use Rattle.numbers.specs.Text.{is_number, digits_value}
use Rattle.rules.specs.declared.book.{Book.Book, Section.Section}
use Rattle.numbers.proofs.Keys.{big_same}
use Rattle.numbers.proofs.Little.{Bytes}
use Rattle.numbers.proofs.Tests.{together, fails_left, fails_right}
use Rattle.rules.specs.Book.{good, section_at, section_of_noughts, held_sections}
use Rattle.rules.specs.Failures.{no_section, section_meant}
use Rattle.book_laws.proofs.Good.{Good, facts}
use Rattle.book_laws.proofs.Held.{held_length, held_good}
use Rattle.method_laws.specs.Columns.{keys_of}
use Rattle.section_code.proofs.Laws.{good_bytes}
use Rattle.std.proofs.Common.{Some, None}
use Rattle.program_words.specs.Digits.{number_in}
use Rattle.program_words.proofs.Digits.{is_number_lem, is_none}
use Rattle.failures.specs.Meant.{places_from, place_of, number_below}

-- numbers that pass one of two tests, where the tests agree
passing-same : (f g : ℕ → Bool) (a n : ℕ) → ((i : ℕ) → i < a + n → f i ≡ g i) → passing f (counted a n) ≡ passing g (counted a n)
unfolding passing counted
passing-same f g a zero alike = refl
passing-same f g a (suc n) alike = ap₂ (λ (t : Bool) (is : List ℕ). cond t (a ∷ is) is) (alike a (omega arith)) (passing-same f g (suc a) n (λ i h. alike i (omega (arith, h))))

module _ (b : Book) (is : good b ≡ true) {keys : List ℕ} (e : keys ≡ keys_of (held_sections b)) (word : List ℕ) where
  book : Good b
  book = facts b is

  keys_long : length keys ≡ b.held
  keys_long = ap length e ∙ length-map (held_sections b) _ ∙ held_length b book.section_places_lem book.held

  abbrev of_code : ℕ
  of_code = get_or (passing (λ (i : ℕ). same (section_at b i).code word) (counted 0 b.held)) 0 no_section

  abbrev of_number : ℕ
  of_number = cond (is_number word and ltb (digits_value word) b.held) (digits_value word) no_section

  -- a section code, by its key (01, Forms, 7)
  module _ (seven : length word ≡ 7) (bytes : Bytes word) where
    key_same : (i : ℕ) → i < b.held → eqb (entry keys i) (big_endian word) ≡ same (section_at b i).code word
    unfolding big_endian
    key_same i h =
        let section = held_good b book i h in
        let code = (section_at b i).code in
        let allowed = together (eq-eqb _ _ section.code_length) section.code_bytes in
        let key : entry keys i ≡ big_endian code =
        ap (λ (ks : List ℕ). entry ks i) e
        ∙ get_or-map (λ (s : Section). big_endian s.code) (held_sections b) i (section_of_noughts [])
        ∙ ap (λ (s : Section). big_endian s.code) (get_or-take _ _ _ _ h) in
        ap (λ (k : ℕ). eqb k (big_endian word)) key ∙ sym (big_same code word (section.code_length ∙ sym seven) (good_bytes code allowed) bytes)

    pub meant_code : {key : ℕ} → key ≡ big_endian word → place_of keys key ≡ section_meant b word
    unfolding place_of section_meant
    meant_code of =
        ap₂ (λ (k n : ℕ). get_or (places_from keys k 0 n) 0 no_section) of keys_long
        ∙ ap (λ (is : List ℕ). get_or is 0 no_section) (passing-same _ _ 0 b.held (λ i h. key_same i (omega (arith, h))))
        ∙ sym (ap (λ (t : Bool). cond t of_code of_number) (eq-eqb (length word) 7 seven))

  -- a section number
  pub meant_number : (length word ≡ 7 → ⊥) → number_below (length keys) word ≡ section_meant b word
  unfolding number_below section_meant
  meant_number other = ap (λ (n : ℕ). number_below n word) keys_long ∙ sym (ap (λ (t : Bool). cond t of_code of_number) (ne_eqb (length word) 7 other))

-- the number in a word says it
module _ (held : ℕ) (word : List ℕ) where
  module _ {n : ℕ} (e : number_in word ≡ Some n) where
    pub number_held : n < held → n ≡ number_below held word
    unfolding number_below
    number_held h =
        let known = is_number_lem word n e in
        known.1 ∙ sym (ap (λ (t : Bool). cond t (digits_value word) no_section) (together known.0 (lt-ltb (digits_value word) held (omega (arith, known.1, h)))))

    pub number_past : held ≤ n → no_section ≡ number_below held word
    unfolding number_below
    number_past h =
        let known = is_number_lem word n e in
        sym (ap (λ (t : Bool). cond t (digits_value word) no_section) (fails_right (is_number word) _ (le-ltb (digits_value word) held (omega (arith, known.1, h)))))

  pub number_none : number_in word ≡ None → no_section ≡ number_below held word
  unfolding number_below
  number_none e = sym (ap (λ (t : Bool). cond t (digits_value word) no_section) (fails_left (is_number word) _ (is_none word e)))
