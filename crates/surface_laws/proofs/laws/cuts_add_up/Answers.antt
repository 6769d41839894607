use Rattle.surface_laws.proofs.Cut.{IsCuttable-placed, IsClosed-glued, value-glued}
use Rattle.surface_laws.proofs.laws.cuts_add_up.Goals as goal

pub returns : goal.returns
returns c = record {
  closed = λ surface circles label placed on closed.
      IsClosed-glued surface circles (IsCuttable-placed surface circles label placed on closed);
  sum = λ p h k surface circles label none placed on closed.
      value-glued p h k surface circles none (IsCuttable-placed surface circles label placed on closed);
}
