use Rattle.std.proofs.lemmas.Bool.Decides.{nat_tests}
use Rattle.std.proofs.Common.{◌^◌, ◌≤◌, length, arith}
use Rattle.std.specs.Prelude.{replicate}
use Rattle.std.proofs.Math.Pow.{pow_mono}
use Rattle.kh_types.specs.declared.limits.TheConstants.{CROSSINGS}
use Rattle.kh_types.proofs.AcceptedLemmas.{IsAccepted-is}
use Rattle.circle_smoothing.specs.declared.branches.TheConstants.{COUNTS}
use Rattle.circle_smoothing.proofs.KindLemmas.{HaveArcsBelow-accepted, IsCounted-counted, slice_index-zeros}
use Rattle.circle_smoothing.proofs.kinds.CountedDiagram.of_diagram.Goals as goal

pub count_branch-requires-clause-arcs : goal.count_branch-requires-clause-arcs
count_branch-requires-clause-arcs = grind (arith, nat_tests, HaveArcsBelow-accepted, IsAccepted-is)

pub count_branch-requires-clause-room : goal.count_branch-requires-clause-room
count_branch-requires-clause-room c = λ place within.
    let power : 2 ^ length c.crossings.result.now ≤ 2 ^ CROSSINGS = pow_mono c.crossings.ensures.few in
    omega (arith, power, slice_index-zeros COUNTS place)

pub invariant_of-result : goal.invariant_of-result
invariant_of-result c =
    IsCounted-counted c.args.diagram.now c.crossings.result.now (replicate COUNTS 0) c.count_branch.new.counts c.of_all.result.ones
    c.of_all.result.classes c.crossings.ensures.accepted c.crossings.ensures.crossings c.crossings.ensures.few
    c.of_all.ensures.ones c.of_all.ensures.classes c.count_branch.ensures.size (slice_index-zeros COUNTS)
    c.count_branch.ensures.counts
