use Rattle.union_laws.proofs.Unions.{dimension-union, dimension-union_turned}
use Rattle.union_laws.proofs.laws.unions.unions_multiply_dimensions.Goals as goal
use Rattle.link_algebra.proofs.TurnedCodes.{small_prime-inverses}

pub returns : goal.returns
returns c =
    record {
      first = λ p most first second field first_is second_is. dimension-union p first second field first_is second_is most;
      second = λ p most first second field first_is second_is. dimension-union_turned p first second field first_is second_is most;
      small = λ p most first second small first_is second_is.
          dimension-union p first second (small_prime-inverses p small) first_is second_is most;
    }
