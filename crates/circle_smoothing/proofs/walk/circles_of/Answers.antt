use Rattle.std.proofs.lemmas.Bool.Decides.{nat_tests}
use Rattle.std.proofs.Common.{◌≡◌, ◌+◌, arith}
use Rattle.std.specs.List.{range_with_len}
use Rattle.kh_types.specs.Code.{arc_count}
use Rattle.kh_types.proofs.CircleCycles.{IsNamed-circles}
use Rattle.circle_smoothing.proofs.CircleWalks.{AreCircles-walked, IsWalked-all, IsWalked-unwalked, walked-circles}
use Rattle.circle_smoothing.proofs.walk.circles_of.Goals as goal

pub arcs-init : goal.arcs-init
arcs-init c =
    let code = c.args.smoothings.now in
    let alone : c.classes_of-circles.result.items ≡ range_with_len 0 (arc_count code.crossings + code.loops + 1) = grind arith in
    IsWalked-unwalked code c.args.state c.classes_of-circles.result.items c.diagram.ensures.accepted alone

pub returns-clause-circles : goal.returns-clause-circles
returns-clause-circles = grind (arith, nat_tests, walked-circles, IsWalked-all)

pub returns-clause-list : goal.returns-clause-list
returns-clause-list = grind (arith, nat_tests, AreCircles-walked, walked-circles, IsWalked-all)

pub returns-clause-few : goal.returns-clause-few
returns-clause-few = grind (arith, nat_tests, IsNamed-circles)
