use Rattle.surface_laws.proofs.Overlaid.{IsClosed-laid, sum-laid}
use Rattle.surface_laws.proofs.laws.overlays_add_up.Goals as goal

pub returns : goal.returns
returns c = record {
  closed = λ first second circles label placed other along.
      IsClosed-laid first second circles label record { placed = placed; other = other; along = along };
  sum = λ p h k first second circles label none placed other along.
      sum-laid p h k first second circles label none record { placed = placed; other = other; along = along };
}
