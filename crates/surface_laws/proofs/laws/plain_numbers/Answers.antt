use Rattle.std.proofs.Common.{refl}
use Rattle.surface_laws.proofs.Weights.{weight-plain, exact}
use Rattle.surface_laws.specs.Surfaces.{value}
use Rattle.surface_laws.specs.Cuts.{glued, sum_over_labels}
use Rattle.surface_laws.proofs.Cut.{IsCuttable-placed, value-glued}
use Rattle.surface_laws.proofs.Factors.{value-plain}
use Rattle.surface_laws.proofs.laws.plain_numbers.Goals as goal

pub returns : goal.returns
returns c = record {
  weights = weight-plain;
  values = value-plain;
  cuts = λ surface circles label placed on closed.
      exact (sum_over_labels 0 0 surface circles) (value 0 0 (glued surface circles))
      (value-glued 0 0 0 surface circles refl (IsCuttable-placed surface circles label placed on closed));
}
