-- The account's lists stand in the fronts of their arrays, and are those that the passes read.
use Rattle.numbers.proofs.Words.{ℕ, ◌≤◌, arith, ◌≡◌, true, sym, ap, List, length, take, length-take, length-take-le}
use Rattle.rules.specs.declared.book.{Book.Book}
use Rattle.rules.specs.Book.{good}
use Rattle.book_laws.proofs.Good.{facts}
use Rattle.method_account.specs.declared.account.{Account.Account}
use Rattle.method_account.specs.Account.{AccountOf}
use Rattle.method_account.proofs.Handed.{near_of, far_of_lem}
use Rattle.method_account.proofs.Taking.{near_long, far_long, drawn_near_long, drawn_far_long}
use Rattle.explain_steps.proofs.expiry.on_columns.Goals as goal

-- an array is as long as a front of it
fits : (n : ℕ) (array : List ℕ) {front : List ℕ} → take n array ≡ front → length front ≡ n → n ≤ length array
fits n array is long = omega (arith, ap length is, long, length-take n array)

module _ (b : Book) (a : Account) (good_book : good b ≡ true) (is : AccountOf b a) where
  near_fits : b.held ≤ length a.outside.near
  near_fits = fits _ _ is.outside_is.near_are (near_long (facts _ good_book))

  far_fits : b.held ≤ length a.outside.giving.given
  far_fits = fits _ _ is.outside_is.gives.given_are (far_long (facts _ good_book))

  inside_fits : b.filed ≤ length a.drawn.inside
  inside_fits = fits _ _ is.drawn_is.inside_are (drawn_near_long (facts _ good_book))

  beyond_fits : b.filed ≤ length a.drawn.beyond
  beyond_fits = fits _ _ is.drawn_is.beyond_are (drawn_far_long (facts _ good_book))

pub slice_bounds-near-end : goal.slice_bounds-near-end
slice_bounds-near-end g c = near_fits _ _ c.requires.0 c.account_of-a.ensures

pub slice_bounds-inside_passes-end : goal.slice_bounds-inside_passes-end
slice_bounds-inside_passes-end g c = sym (length-take-le _ _ (near_fits _ _ c.requires.0 c.account_of-a.ensures))

pub slice_bounds-inside-end : goal.slice_bounds-inside-end
slice_bounds-inside-end g c = inside_fits _ _ c.requires.0 c.account_of-a.ensures

pub slice_bounds-inside_passes-end-2 : goal.slice_bounds-inside_passes-end-2
slice_bounds-inside_passes-end-2 g c = sym (length-take-le _ _ (inside_fits _ _ c.requires.0 c.account_of-a.ensures))

pub inside_passes-requires : goal.inside_passes-requires
inside_passes-requires g c = record { book = c.args.b; is = near_of c.requires.0 c.requires.1 c.account_of-a.ensures }

pub slice_bounds-far-end : goal.slice_bounds-far-end
slice_bounds-far-end g c = far_fits _ _ c.requires.0 c.account_of-a.ensures

pub slice_bounds-outside_pass-end : goal.slice_bounds-outside_pass-end
slice_bounds-outside_pass-end g c = sym (length-take-le _ _ (far_fits _ _ c.requires.0 c.account_of-a.ensures))

pub slice_bounds-beyond-end : goal.slice_bounds-beyond-end
slice_bounds-beyond-end g c = beyond_fits _ _ c.requires.0 c.account_of-a.ensures

pub slice_bounds-outside_pass-end-2 : goal.slice_bounds-outside_pass-end-2
slice_bounds-outside_pass-end-2 g c = sym (length-take-le _ _ (beyond_fits _ _ c.requires.0 c.account_of-a.ensures))

pub outside_pass-p-requires : goal.outside_pass-p-requires
outside_pass-p-requires g c = record { book = c.args.b; is = far_of_lem c.requires.0 c.requires.1 c.account_of-a.ensures }
