-- The account of a book has the lists that its passes read.
use Rattle.numbers.proofs.Words.{◌≡◌, refl, true, List, ℕ, take, ℤ}
use Rattle.rules.specs.declared.book.{Book.Book}
use Rattle.rules.specs.Book.{good}
use Rattle.method_delivery.specs.Lent.{ColumnsOf}
use Rattle.method_account.specs.declared.account.{Account.Account}
use Rattle.method_account.specs.Account.{AccountOf}
use Rattle.method_account.specs.Passes.{Near, Far}

module _ {b : Book} {codes : List ℕ} {positions : List ℤ} {keys selling stands stock : List ℕ} {a : Account} (good_book : good b ≡ true) (e : ColumnsOf b codes positions keys selling stands stock) (is : AccountOf b a) where
  -- for the inside passes (01, Expiry, 6.1)
  pub near_of : Near codes positions keys selling stands (take b.held a.outside.near) (take b.filed a.drawn.inside) b
  near_of =
      record {
        good_book = good_book;
        columns = record { codes_are = e.codes_are; positions_are = e.positions_are; keys_are = e.keys_are; filed = record { sellers_are = e.filed.sellers_are; stands_are = e.filed.stands_are; lots_are = refl } };
        near_are = is.outside_is.near_are;
        drawn_are = is.drawn_is.inside_are;
      }

  -- and for the outside pass
  pub far_of_lem : Far positions keys selling stands (take b.held a.outside.giving.given) (take b.filed a.drawn.beyond) b
  far_of_lem =
      record {
        good_book = good_book;
        columns = record { codes_are = refl; positions_are = e.positions_are; keys_are = e.keys_are; filed = record { sellers_are = e.filed.sellers_are; stands_are = e.filed.stands_are; lots_are = refl } };
        far_are = is.outside_is.gives.given_are;
        drawn_are = is.drawn_is.beyond_are;
      }
