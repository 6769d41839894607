use Rattle.std.proofs.lemmas.Bool.Decides.{nat_tests}
use Rattle.std.proofs.Common.{arith}
use Rattle.circle_smoothing.proofs.KeptNumbers.{count-within}
use Rattle.circle_smoothing.proofs.numbered.Circles.count.Goals as goal

pub returns-clause-count : goal.returns-clause-count
returns-clause-count c = rw (← c.self.view_is) c.self.invariant.count

pub returns-clause-within : goal.returns-clause-within
returns-clause-within c =
    grind (arith, nat_tests, count-within c.self.inside.diagram c.self.inside.state c.self.invariant.code c.self.invariant.few)
