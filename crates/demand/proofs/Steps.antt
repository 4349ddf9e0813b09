-- What each accepted call does to positions, bases and the last session, given the trade or the session that it brings.
use Rattle.numbers.proofs.Words.{ℕ, ◌≡◌, refl, sym, ap, subst, ◌∙◌, true, cond, List, [], ◌∷◌, map, length, ℤ, pos, ◌+ℤ◌, +ℤ_idl, +ℤ_idr, some, Every, entry_ℤ, gathered, total_ℤ}
use Rattle.rules.specs.declared.{book.Book.Book, units.Lots.Lots, units.Kopecks.Kopecks}
use Rattle.rules.specs.Units.{worth}
use Rattle.rules.specs.Book.{good, section_at, position_of, basis_of, value_at}
use Rattle.rules.specs.Calls.{new_section, section_answer, trade_number, traded, trade_answer, session_number, handed_out, following, after_session, session_answer, condition_answer, after_notice, notice_answer}
use Rattle.rules.specs.Expiry.Call.{expiry_answer, after_expiry}
use Rattle.rules.specs.History.{Single, section, trade, session, condition, notice, expiry, answer_of, Trade, trade_of, Session, session_of, any_session, net, entered}
use Rattle.book_laws.proofs.Accepted as accepted
use Rattle.book_laws.proofs.Answers.{written}
use Rattle.book_laws.proofs.Margins.{margins_sum, margins_written}
use Rattle.book_laws.proofs.Kept.{expiry_kept, Section.section_kept, Trade.trade_kept, Session.session_kept, Condition.condition_kept, Notice.notice_kept}
use Rattle.book_laws.proofs.Effects.Section.{section_position, section_basis, section_session}
use Rattle.book_laws.proofs.Effects.Trade.{trade_position, trade_basis}
use Rattle.book_laws.proofs.Effects.Session.{session_position, session_basis, session_rise}
use Rattle.book_laws.proofs.Effects.Condition.{condition_lots, condition_session}

-- what sessions pay to section i
abbrev pub paid_to : ℕ → List Session → ℤ
paid_to i ss = total_ℤ (map (λ (s : Session). entry_ℤ s.margins i) ss)

pub record Effect (b new : Book) (ts : List Trade) (ss : List Session) : Type 0 where
  pub book : good new ≡ true
  pub positions : (i : ℕ) → position_of (section_at new i) ≡ position_of (section_at b i) +ℤ net ts i
  pub bases : (i : ℕ) → basis_of (section_at new i) ≡ basis_of (section_at b i) +ℤ (paid_to i ss +ℤ entered ts i)
  pub last : new.last ≡ cond (some any_session ss) (following b.last) b.last
  pub even : Every (λ (s : Session). total_ℤ s.margins ≡ pos 0) ss
  pub settles : Every (λ (s : Session). (i : ℕ) → basis_of (section_at new i) ≡ (worth (section_at new i).position s.value).0) ss

-- after a session every basis is position·V (01, Session, 3)
pub settled_basis : {b new : Book} {ts : List Trade} {ss : List Session} → Effect b new ts ss → (s : Session) → ss ≡ s ∷ [] → (i : ℕ) → basis_of (section_at new i) ≡ (worth (section_at new i).position s.value).0
unfolding Every
settled_basis {new = new} done s one = (subst (Every (λ (t : Session). (i : ℕ) → basis_of (section_at new i) ≡ (worth (section_at new i).position t.value).0)) one done.settles).0

-- a call that brings neither
quiet : (b new : Book) → good new ≡ true → ((i : ℕ) → position_of (section_at new i) ≡ position_of (section_at b i)) → ((i : ℕ) → basis_of (section_at new i) ≡ basis_of (section_at b i)) → new.last ≡ b.last → Effect b new [] []
unfolding net entered gathered some Every
quiet b new book positions bases last =
    record { book = book; positions = λ i. positions i ∙ sym (+ℤ_idr _); bases = λ i. bases i ∙ sym (+ℤ_idr _); last = last; even = tt; settles = tt }

trade_effect : (b : Book) (buyer seller price lots : ℕ) → trade_number b buyer seller price lots ≡ 0 → Effect b (traded b buyer seller price lots) (trade_of b (trade buyer seller price lots)) []
unfolding trade_of net entered gathered some Every traded
trade_effect b buyer seller price lots e =
    let call = accepted.trade b buyer seller price lots e in
    record {
      book = trade_kept b buyer seller price lots e;
      positions = λ i. trade_position b buyer seller price lots call i ∙ ap (λ (z : ℤ). position_of (section_at b i) +ℤ z) (sym (+ℤ_idr _));
      bases = λ i. trade_basis b buyer seller price lots call i ∙ ap (λ (z : ℤ). basis_of (section_at b i) +ℤ z) (sym (+ℤ_idl _ ∙ +ℤ_idr _));
      last = refl;
      even = tt;
      settles = tt;
    }

session_effect : (b : Book) (price : ℕ) (list : List ℤ) → session_number b price (length list) ≡ 0 → Effect b (after_session b price) [] (session_of b (session price list))
unfolding session_of net entered gathered some Every after_session
session_effect b price list e =
    let book = (accepted.session b price (length list) e).book in
    record {
      book = session_kept b price (length list) e;
      positions = λ i. session_position b price book i ∙ sym (+ℤ_idr _);
      bases = λ i. session_rise b price book i ∙ ap (λ (z : ℤ). basis_of (section_at b i) +ℤ z) (sym (+ℤ_idr _ ∙ +ℤ_idr _ ∙ ap (λ (ms : List ℤ). entry_ℤ ms i) (margins_written b price list e)));
      last = refl;
      even = (ap total_ℤ (margins_written b price list e) ∙ margins_sum b price (length list) e, tt);
      settles = (λ i. session_basis b price book i ∙ ap (λ (z : ℤ). (worth (record { 0 = z }) (value_at b price)).0) (sym (session_position b price book i)), tt);
    }

handed : {number : ℕ} {b new : Book} {ts : List Trade} {ss : List Session} → number ≡ 0 → Effect b new ts ss → Effect b (handed_out number new b) ts ss
handed {b = b} {ts = ts} {ss = ss} e = subst (λ (new : Book). Effect b new ts ss) (written _ _ _ b refl e)

pub effect : (b : Book) → good b ≡ true → (c : Single) → (answer_of b c).number ≡ 0 → Effect b (answer_of b c).book (trade_of b c) (session_of b c)
unfolding answer_of trade_of session_of section_answer trade_answer session_answer condition_answer notice_answer expiry_answer after_notice after_expiry
effect b was (section settlement code participant seller) e =
    let call = accepted.section b settlement code e in
    handed e
    (quiet b _ (section_kept b settlement code participant seller e) (section_position b call.book call.room settlement code participant seller)
    (section_basis b call.book call.room settlement code participant seller) (section_session b (new_section settlement code participant seller)).last)
effect b was (trade buyer seller price lots) e = handed e (trade_effect b buyer seller price lots e)
effect b was (session price list) e = handed e (session_effect b price list e)
effect b was (condition i met) e =
    let same = condition_lots b i met in
    handed e (quiet b _ (condition_kept b i met e) (λ j. ap (λ (k : Lots). k.0) (same j).position) (λ j. ap (λ (k : Kopecks). k.0) (same j).basis) (condition_session b i met).last)
effect b was (notice i elevator lots) e = handed e (quiet b (after_notice b i elevator lots) (notice_kept b i elevator lots e) (λ j. refl) (λ j. refl) refl)
effect b was (expiry ls) e = handed e (quiet b (after_expiry b) (expiry_kept b ∙ was) (λ j. refl) (λ j. refl) refl)
