use Rattle.order_laws.proofs.Orders.{filtered-reordered, survivors-reordered}
use Rattle.order_laws.proofs.laws.orders_keep_survivors.Goals as goal

pub returns : goal.returns
returns c =
    record {
      survivors = λ p h loops plus minus first second field is i t.
          survivors-reordered p h loops plus minus field i t first second is;
      filtered = λ p h loops plus minus first second field is filtered.
          filtered-reordered p h loops plus minus field first second is filtered;
    }
