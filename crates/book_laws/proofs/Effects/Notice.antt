-- What a notice call does: one notice more at the end, and no section is touched (01, Book, 1).
use Rattle.numbers.proofs.Words.{ℕ, ◌+◌, ◌<◌, arith, ◌≡◌, refl, get_or-set_same, get_or-set_other, pos}
use Rattle.rules.specs.declared.book.{Book.Book}
use Rattle.rules.specs.Book.{notice_at, blank_notice}
use Rattle.rules.specs.Calls.{after_notice}
use Rattle.book_laws.proofs.Good.{Good}
use Rattle.book_laws.proofs.Effects.Same.{SameTerms, SameSession}

module _ (b : Book) (i elevator lots : ℕ) where
  pub notice_sections : (after_notice b i elevator lots).sections ≡ b.sections
  unfolding after_notice
  notice_sections = refl

  -- the notices filed stand, and the new one comes after them
  pub notice_other : (j : ℕ) → (j ≡ b.filed → ⊥) → notice_at (after_notice b i elevator lots) j ≡ notice_at b j
  unfolding after_notice
  notice_other j not_new = get_or-set_other b.notices b.filed j _ blank_notice not_new

  pub notice_new : Good b → b.filed < 256 → notice_at (after_notice b i elevator lots) b.filed ≡ record { section = i; elevator = elevator; lots = record { 0 = pos lots } }
  unfolding after_notice
  notice_new book room = get_or-set_same b.notices b.filed _ blank_notice (omega (arith, book.notice_places_lem))

  pub notice_held : (after_notice b i elevator lots).held ≡ b.held
  unfolding after_notice
  notice_held = refl

  pub notice_filed_lem : (after_notice b i elevator lots).filed ≡ b.filed + 1
  unfolding after_notice
  notice_filed_lem = refl

  pub notice_terms : SameTerms (after_notice b i elevator lots) b
  unfolding after_notice
  notice_terms = record { lot = refl; w = refl; r = refl; expired = refl }

  pub notice_session : SameSession (after_notice b i elevator lots) b
  unfolding after_notice
  notice_session = record { last = refl; price = refl; trades = refl }
