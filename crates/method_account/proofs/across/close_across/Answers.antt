-- What step 2 left is lent, and what is kept of it stands in its place.
use Rattle.numbers.proofs.Words.{rules, ℕ, arith, ◌≡◌, sym, ap, ap₂, subst, ◌∙◌, false, List, take, length, length-take-le, ℤ, w64, to_z, of_z, pos, ◌+ℤ◌, to_z-of_z, entry_ℤ, listed, total_ℤ, less}
use Rattle.numbers.proofs.Front.{Front, front_of}
use Rattle.numbers.proofs.Ranges.{listed_at, listed_same}
use Rattle.rules.specs.declared.book.{Section.Section}
use Rattle.rules.specs.Expiry.{net_of_code}
use Rattle.rules.specs.Expiry.Across.{d_overall, given_across}
use Rattle.method_laws.specs.Columns.{Columns, Small}
use Rattle.method_steps.proofs.Laws.{left_small}
use Rattle.method_account.specs.Gives.{may_give_across}
use Rattle.method_account.specs.Steps.{nets_of, d_of, InCodesOf}
use Rattle.method_account.proofs.Laws.{gives_same}
use Rattle.method_account.proofs.across.close_across.Goals as goal
use Rattle.method_account.proofs.across.close_across.Goals.{After-left_open-d, After-less}

-- what step 2 left is lent whole, and what is kept of it stands in its front
kept_front : (c : After-less) → Front (length (c.args.columns.codes.now)) c.args.before.left c.less.new.lots
kept_front c =
    let left_places : length c.args.before.left ≡ 128 = search rules in
    front_of _ _ _ (omega (arith, left_places, c.requires.0.few)) c.less.auto.lots

-- D is every D(c) with what its code gave
module _ (c : After-left_open-d) where
  abbrev many : ℕ
  many = length (c.args.columns.codes.now)

  d_is : {ss : List Section} {failed : List ℕ} → Columns ss (c.args.columns.codes.now) (c.args.columns.positions.now) (c.args.columns.keys.now) → InCodesOf many ss failed c.args.before
      → c.left_open-d.result ≡ d_of ss failed
  unfolding d_overall
  d_is {ss} {failed} columns is =
      let gaps = c.args.before.gaps in
      let given = take many c.args.before.giving.given in
      c.left_open-d.ensures
      ∙ ap (λ (nets : List ℤ). total_ℤ (listed 64 (λ (i : ℕ). entry_ℤ gaps i +ℤ entry_ℤ nets i))) (c.nets.ensures.out_after ss columns.codes_are columns.positions_are)
      ∙ ap total_ℤ (listed_same 64 _ _ (λ i h. ap (λ (z : ℤ). entry_ℤ gaps i +ℤ z) (listed_at 64 (net_of_code ss given) i (pos 0) h)))
      ∙ ap₂ (d_overall ss) is.gaps_are is.gives.given_are

pub returns : goal.returns
returns c =
    let opened = (goal.at.returns c).After-left_open-d in
    let kept = kept_front (goal.at.returns c).After-less in
    let left = take (length (c.args.columns.codes.now)) c.args.before.left in
    let left_places : length c.args.before.left ≡ 128 = search rules in
    let left_long = length-take-le (length (c.args.columns.codes.now)) c.args.before.left (omega (arith, left_places, c.requires.0.few)) in record {
      across_of = λ ss failed columns is.
          let d : to_z w64 (of_z w64 c.left_open-d.result) ≡ d_of ss failed = to_z-of_z {w = w64} (record { sfits = search }) ∙ d_is opened columns is in
          let step = gives_same false ss (may_give_across ss) (given_across ss) c.over_codes-giving.result left_long d is.left_are (c.over_codes-giving.ensures ss columns) in
          record {
            d_is = d;
            sound_are = c.nets-2.ensures.out_after ss columns.codes_are columns.positions_are ∙ ap (nets_of ss) is.left_are;
            gives = step;
            kept_are = kept.is ∙ c.less.ensures ∙ ap₂ less is.left_are step.given_are;
          };
      small = subst Small (sym (kept.is ∙ c.less.ensures)) (left_small 1_000_000 left (take (length (c.args.columns.codes.now)) c.over_codes-giving.result.given) c.requires.1.left_small);
    }
