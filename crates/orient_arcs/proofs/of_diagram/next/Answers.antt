-- The next arc of an accepted code is an arc.
use Rattle.std.proofs.lemmas.Bool.Decides.{nat_tests}
use Rattle.std.proofs.Common.{arith}
use Rattle.kh_types.proofs.NextArcs.{IsArc-next}
use Rattle.orient_arcs.proofs.ComponentLemmas.{IsDirected-accepted}
use Rattle.orient_arcs.proofs.of_diagram.next.Goals as goal

pub overflow_cast-result : goal.overflow_cast-result
overflow_cast-result = grind (arith, nat_tests, IsArc-next, IsDirected-accepted)

pub returns-clause-within : goal.returns-clause-within
returns-clause-within = grind (arith, nat_tests, IsArc-next, IsDirected-accepted)
