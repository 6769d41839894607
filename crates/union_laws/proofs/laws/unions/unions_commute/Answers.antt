use Rattle.union_laws.proofs.UnitedTables.{tables-commute}
use Rattle.union_laws.proofs.Unions.{unions-commute}
use Rattle.union_laws.proofs.laws.unions.unions_commute.Goals as goal
use Rattle.link_algebra.proofs.TurnedCodes.{small_prime-inverses}

pub returns : goal.returns
returns c =
    record {
      dimensions = unions-commute;
      tables = tables-commute;
      small = λ p first second small. tables-commute p first second (small_prime-inverses p small);
    }
