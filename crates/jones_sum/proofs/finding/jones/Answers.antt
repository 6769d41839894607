use Rattle.std.proofs.Common.{◌∙◌, ap}
use Rattle.kh_types.specs.Code.{Code}
use Rattle.kh_types.specs.StateSum.{state_sum}
use Rattle.jones_sum.specs.Coefficients.{coefficients_of}
use Rattle.jones_sum.proofs.finding.jones.Goals as goal

pub returns : goal.returns
returns c = c.state_sum.ensures ∙ ap (λ (code : Code). coefficients_of (state_sum code)) c.of_diagram.ensures
