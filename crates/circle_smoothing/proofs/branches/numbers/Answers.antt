use Rattle.std.proofs.Common.{arith}
use Rattle.circle_smoothing.specs.declared.branches.TheConstants.{MEMBERS}
use Rattle.circle_smoothing.proofs.BranchLemmas.{numbers-all}
use Rattle.circle_smoothing.proofs.branches.numbers.Goals as goal

pub returns : goal.returns
returns c = numbers-all c.numbers.numbers MEMBERS c.numbers.invariant.size (λ place below. c.numbers.invariant.numbers place (omega arith))
