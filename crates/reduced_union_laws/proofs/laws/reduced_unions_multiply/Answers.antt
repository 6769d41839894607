use Rattle.reduced_union_laws.proofs.ReducedProducts.{reduced-union_first, reduced-union_second}
use Rattle.reduced_union_laws.proofs.laws.reduced_unions_multiply.Goals as goal
use Rattle.link_algebra.proofs.TurnedCodes.{small_prime-inverses}

pub returns : goal.returns
returns c =
    record {
      first = λ p most mark first second field first_is second_is name.
          reduced-union_first p first second field first_is second_is mark name most;
      second = λ p most mark first second field first_is second_is name.
          reduced-union_second p first second field first_is second_is mark name most;
      small_first = λ p most mark first second small first_is second_is name.
          reduced-union_first p first second (small_prime-inverses p small) first_is second_is mark name most;
      small_second = λ p most mark first second small first_is second_is name.
          reduced-union_second p first second (small_prime-inverses p small) first_is second_is mark name most;
    }
