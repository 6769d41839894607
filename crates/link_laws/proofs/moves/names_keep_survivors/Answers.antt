use Rattle.link_laws.proofs.Changes.{survivors-numbers, survivors-order}
use Rattle.link_laws.proofs.Reversed.{survivors-reversed}
use Rattle.link_laws.proofs.moves.names_keep_survivors.Goals as goal

pub returns : goal.returns
returns c =
    record {
      numbers = survivors-numbers;
      order = survivors-order;
      reversal = λ p h code field holds i t. survivors-reversed code holds p h field i t;
    }
