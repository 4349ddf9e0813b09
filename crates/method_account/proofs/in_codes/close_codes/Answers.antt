-- One local list is lent three times: the sizes, the sound lots, and what is left of them.
use Rattle.numbers.proofs.Words.{ℕ, arith, ◌≡◌, sym, ap, ap₂, subst, ◌∙◌, false, List, ◌++◌, map, map-map, take, drop, length, nat_abs, entry, less}
use Rattle.numbers.proofs.Front.{Front, front_of}
use Rattle.numbers.proofs.Ranges.{less_at}
use Rattle.rules.specs.declared.book.{Section.Section}
use Rattle.rules.specs.Book.{position_of}
use Rattle.rules.specs.Expiry.Codes.{d_of_codes, given_in_codes}
use Rattle.method_laws.specs.Columns.{Columns, Small}
use Rattle.method_laws.specs.Giving.{given_by_size}
use Rattle.method_steps.proofs.Laws.{noughts, sizes_small, left_small}
use Rattle.method_account.specs.Steps.{sound_of}
use Rattle.method_account.specs.Gives.{may_give}
use Rattle.method_account.proofs.Laws.{gives_same, given_small}
use Rattle.method_account.proofs.in_codes.close_codes.Goals as goal
use Rattle.method_account.proofs.in_codes.close_codes.Goals.{After-less, After-magnitudes}

-- the sizes
sizes_front : (c : After-magnitudes) → Front (length (c.args.failed.now)) noughts c.magnitudes.new.out
sizes_front c = front_of _ _ _ c.requires.0.few c.magnitudes.auto.out

-- the sound lots
module _ (c : After-less) where
  abbrev many : ℕ
  many = length (c.args.failed.now)

  sized : Front many noughts c.magnitudes.new.out
  sized = front_of _ _ _ c.requires.0.few c.magnitudes.auto.out

  abbrev sizes : List ℕ
  sizes = c.magnitudes.new.out ++ drop many noughts

  sound_front : Front many sizes c.less.new.lots
  sound_front = front_of _ _ _ sized.fits c.less.auto.lots

  abbrev sound : List ℕ
  sound = c.less.new.lots ++ drop many sizes

  sound_is : {ss : List Section} → Columns ss (c.args.columns.codes.now) (c.args.columns.positions.now) (c.args.columns.keys.now) → take many sound ≡ sound_of ss (c.args.failed.now)
  sound_is {ss} columns =
      sound_front.is
      ∙ c.less.ensures
      ∙ ap (λ (xs : List ℕ). less xs (c.args.failed.now)) (sized.is ∙ c.magnitudes.ensures ∙ ap (map nat_abs) columns.positions_are ∙ map-map nat_abs position_of ss)

  sound_small : Small (take many sound)
  sound_small i =
      omega (
        arith,
        ap (λ (xs : List ℕ). entry xs i) (sound_front.is ∙ c.less.ensures),
        less_at (take many sizes) (c.args.failed.now) i,
        ap (λ (xs : List ℕ). entry xs i) (sized.is ∙ c.magnitudes.ensures),
        sizes_small 1_000_000 (c.args.columns.positions.now) c.requires.0.position i,
      )

pub returns : goal.returns
unfolding d_of_codes given_in_codes
returns c =
    let at = (goal.at.returns c).After-less in
    let lots = take (length (c.args.failed.now)) (sound at) in
    let given = c.by_code-giving.result.given in
    let left = front_of _ _ _ (sound_front at).fits c.less-2.auto.lots in record {
      in_codes_of = λ ss columns.
          let gaps_are = c.nets.ensures.out_after ss columns.codes_are columns.positions_are in
          let gives = gives_same false ss (may_give false ss) (given_by_size false ss) c.by_code-giving.result (sound_front at).long gaps_are (sound_is at columns) (c.by_code-giving.ensures.gives ss columns) in
          record { gaps_are = gaps_are; gives = gives; left_are = left.is ∙ c.less-2.ensures ∙ ap₂ less (sound_is at columns) gives.given_are };
      closed = record {
        gaps_long = c.nets.ensures.out_len.0;
        gaps_small = c.nets.ensures.out_len.1;
        given_small = given_small lots given (sound_front at).long (sound_small at) c.by_code-giving.ensures.at_most;
        left_small = subst Small (sym (left.is ∙ c.less-2.ensures)) (left_small 1_000_000 lots (take (length (c.args.failed.now)) given) (sound_small at));
      };
    }
