use Rattle.union_laws.proofs.PieceTables.{tables-cut, tables-pieces}
use Rattle.union_laws.proofs.laws.pieces.pieces_multiply_tables.Goals as goal
use Rattle.link_algebra.proofs.TurnedCodes.{small_prime-inverses}

pub returns : goal.returns
returns c =
    record {
      parts = λ p keep code loops others field holds cut few adds i j.
          tables-cut keep code holds cut loops others adds p field few i j;
      pieces = tables-pieces;
      small = λ p code small. tables-pieces p code (small_prime-inverses p small);
    }
