-- What a call leaves as it was: of a book, and of a section.
use Rattle.numbers.proofs.Words.{◌≡◌, sym, subst}
use Rattle.rules.specs.declared.book.{Book.Book, Section.Section}

-- the contract's terms, so V too, and the expired mark (01, Value, 5)
pub record SameTerms (new old : Book) : Type 0 where
  pub lot : new.lot ≡ old.lot
  pub w : new.w ≡ old.w
  pub r : new.r ≡ old.r
  pub expired : new.expired ≡ old.expired

pub record SameNotices (new old : Book) : Type 0 where
  pub notices : new.notices ≡ old.notices
  pub filed : new.filed ≡ old.filed

-- the last session, and the trades since it
pub record SameSession (new old : Book) : Type 0 where
  pub last : new.last ≡ old.last
  pub price : new.price ≡ old.price
  pub trades : new.trades ≡ old.trades

-- who a section is
pub record SameHolder (new old : Section) : Type 0 where
  pub settlement : new.settlement ≡ old.settlement
  pub code : new.code ≡ old.code
  pub participant : new.participant ≡ old.participant
  pub seller : new.seller ≡ old.seller

pub holder_by : {new t old : Section} → new ≡ t → SameHolder t old → SameHolder new old
holder_by {old = old} e h = subst (λ (s : Section). SameHolder s old) (sym e) h
