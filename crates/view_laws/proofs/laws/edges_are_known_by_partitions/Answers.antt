use Rattle.view_laws.proofs.PlainViews.{deformed-edge, plain-edge}
use Rattle.view_laws.proofs.laws.edges_are_known_by_partitions.Goals as goal

pub returns : goal.returns
returns c =
    record {
      deformed = λ p h code names arc x y place circles is below within zero_there behind.
          deformed-edge code names arc x y place circles is below within zero_there behind p h;
      plain = λ p code names arc x y place circles is below within zero_there behind.
          plain-edge code names arc x y place circles is below within zero_there behind p;
    }
