use Rattle.union_laws.proofs.UnitedTables.{dimension-tables}
use Rattle.union_laws.proofs.laws.unions.unions_multiply_tables.Goals as goal
use Rattle.link_algebra.proofs.TurnedCodes.{small_prime-inverses}

pub returns : goal.returns
returns c =
    record {
      rows = dimension-tables;
      small = λ p first second small. dimension-tables p first second (small_prime-inverses p small);
    }
