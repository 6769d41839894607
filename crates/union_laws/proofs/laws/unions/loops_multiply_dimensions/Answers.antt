use Rattle.union_laws.proofs.Loops.{dimension-loops, one-more_loop}
use Rattle.union_laws.proofs.laws.unions.loops_multiply_dimensions.Goals as goal
use Rattle.link_algebra.proofs.TurnedCodes.{small_prime-inverses}

pub returns : goal.returns
returns c =
    record {
      one = λ p code field is. one-more_loop p code field is;
      all = λ p code field is. dimension-loops p code field code.loops is;
      small = λ p code small is. dimension-loops p code (small_prime-inverses p small) code.loops is;
    }
