use Rattle.view_laws.proofs.InnerEdges.{inner-none, inner-saddle}
use Rattle.view_laws.proofs.laws.inner_coefficients.Goals as goal

pub returns : goal.returns
returns c =
    record {
      none = inner-none;
      saddle = inner-saddle;
    }
