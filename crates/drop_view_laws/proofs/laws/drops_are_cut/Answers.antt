use Rattle.drop_view_laws.proofs.DroppedMoves.{IsFingerDrop-moved, IsKinkDrop-moved, dimension-bigon_first, dimension-kink_first}
use Rattle.drop_view_laws.proofs.laws.drops_are_cut.Goals as goal

pub returns : goal.returns
returns c = record {
  kink = IsKinkDrop-moved;
  finger = IsFingerDrop-moved;
  kink_first = dimension-kink_first;
  bigon_first = dimension-bigon_first;
}
