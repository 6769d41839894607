use Rattle.std.proofs.Common.{◌∙◌, ap₂, arith, pos, ◌-ℤ◌}
use Rattle.kh_types.specs.StateSum.{state_sum}
use Rattle.kh_types.specs.declared.limits.TheConstants.{EXPONENT}
use Rattle.jones_sum.specs.Kinds.{counted_sum, kind_term}
use Rattle.jones_sum.proofs.CoefficientLemmas.{coefficients_of-filled}
use Rattle.jones_sum.proofs.finding.state_sum.Goals as goal

pub returns : goal.returns
returns c =
    coefficients_of-filled (state_sum c.args.counted.now) c.places.coefficients c.places.invariant.size
    (λ place below.
    c.places.invariant.coefficients place (omega arith)
    ∙ ap₂ (λ plus minus. counted_sum (kind_term plus minus (pos place -ℤ pos EXPONENT)) c.state_counts-counts.result)
    c.of_counted-signs.ensures.plus c.of_counted-signs.ensures.minus
    ∙ c.state_counts-counts.ensures.sums (pos place -ℤ pos EXPONENT))
