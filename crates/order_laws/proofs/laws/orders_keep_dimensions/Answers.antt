use Rattle.kh_types.specs.Directions.{minus_count, plus_count}
use Rattle.order_laws.proofs.Orders.{dimension-reordered, dimension-same_signs}
use Rattle.order_laws.proofs.laws.orders_keep_dimensions.Goals as goal

pub returns : goal.returns
returns c =
    record {
      listed = λ p code crossings field is i j.
          dimension-reordered p code.loops (plus_count code.crossings) (minus_count code.crossings) field i j code.crossings crossings is;
      codes = dimension-same_signs;
    }
