-- Quotient, remainder and case are those of the definition, and so is the result, which fits.
use Rattle.numbers.proofs.Words.{arith, ◌≡◌, ◌∙◌, ap, ap₂}
use Rattle.rules.specs.declared.rounding.{Division.Division}
use Rattle.rules.specs.Rounding.{case_of, result_of, rounded}
use Rattle.value_laws.proofs.Rounding.{rounded_fits}
use Rattle.value.proofs.rounding.rounded.Goals as goal
use Rattle.value.proofs.rounding.rounded.Goals.{After-case_of}

-- what was found so far
found : (c : After-case_of) → result_of c.divided-division.result.quotient c.case_of.result ≡ rounded c.args.n c.args.d
unfolding rounded
found c =
    let division = c.divided-division.ensures in
    let d = c.args.d in
    ap₂ result_of (ap (λ (q : Division). q.quotient) division) (c.case_of.ensures ∙ ap (λ (q : Division). case_of q.remainder d) division)

pub result_of-requires : goal.result_of-requires
result_of-requires c = rw (found c) (omega (arith, rounded_fits c.args.n c.args.d))

pub returns : goal.returns
returns c = c.result_of.ensures ∙ found c.before
