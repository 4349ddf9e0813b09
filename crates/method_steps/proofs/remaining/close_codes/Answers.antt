-- The calls' `ensures`, one after the other.
use Rattle.numbers.proofs.Words.{ℕ, arith, ap, ◌∙◌, List, length, ℤ, pos, ◌+ℤ◌, w64, to_z-of_z, entry, entry_ℤ, listed, less, total_ℤ}
use Rattle.numbers.proofs.Front.{noughts_front, Front, front_of}
use Rattle.numbers.proofs.Ranges.{listed_at, listed_same, less_at}
use Rattle.rules.specs.Expiry.{net_of_code}
use Rattle.rules.specs.Expiry.Codes.{given_in_codes}
use Rattle.rules.specs.Expiry.Across.{d_overall}
use Rattle.method_steps.proofs.Laws.{noughts}
use Rattle.method_steps.proofs.remaining.close_codes.Goals as goal

pub give-requires-clause-held : goal.give-requires-clause-held
give-requires-clause-held c = (c.requires.held.0, c.requires.held.1, noughts_front _ 128 c.requires.held.0.few)

pub returns : goal.returns
unfolding given_in_codes d_overall
returns c =
    let kept = c.args.kept.now in
    let gaps = c.args.gaps.now in
    let given = c.give.new.given in
    let front : Front (length kept) noughts given = front_of (length kept) noughts given c.requires.held.0.few c.give.auto.given in
    let left = c.less.ensures ∙ ap (less kept) front.is in record {
      kept_after = λ ss columns. left ∙ ap (less kept) (c.give.ensures.given_after ss columns);
      value = λ ss columns.
          let nets = net_of_code ss (given_in_codes ss gaps kept) in
          to_z-of_z {w = w64} (record { sfits = c.left_open.type_inv })
          ∙ c.left_open.ensures
          ∙ ap (λ (nets : List ℤ). total_ℤ (listed 64 (λ (i : ℕ). entry_ℤ gaps i +ℤ entry_ℤ nets i)))
          (c.nets.ensures.out_after ss columns.codes_are columns.positions_are ∙ ap (λ (lots : List ℕ). listed 64 (net_of_code ss lots)) (front.is ∙ c.give.ensures.given_after ss columns))
          ∙ ap total_ℤ (listed_same 64 _ _ (λ i h. ap (λ (z : ℤ). entry_ℤ gaps i +ℤ z) (listed_at 64 nets i (pos 0) h)));
      small = λ i. omega (arith, ap (λ (xs : List ℕ). entry xs i) left, less_at kept given i, c.requires.nets_small.1 i);
    }
