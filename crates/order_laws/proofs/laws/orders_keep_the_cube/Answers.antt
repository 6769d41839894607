use Rattle.order_laws.proofs.Orders.{complex-reordered, dimension-reordered}
use Rattle.order_laws.proofs.laws.orders_keep_the_cube.Goals as goal

pub returns : goal.returns
returns c =
    record {
      dimensions = λ p loops plus minus first second field is i j. dimension-reordered p loops plus minus field i j first second is;
      complex = λ p loops plus minus first second field is complex. complex-reordered p loops plus minus field first second is complex;
    }
