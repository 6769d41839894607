use Rattle.std.proofs.lemmas.Bool.Decides.{nat_tests}
use Rattle.std.proofs.Common.{arith}
use Rattle.diagram_moves.proofs.ApplyLemmas.{moves_keep_the_state_sum}
use Rattle.diagram_moves.proofs.apply.apply_move.Goals as goal

pub returns-clause-sum : goal.returns-clause-sum
returns-clause-sum c =
    grind (arith, nat_tests, moves_keep_the_state_sum c.args.diagram.now c.args.change c.diagram_laws.ensures.accepted)
