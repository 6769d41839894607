use Rattle.std.proofs.Common.{◌+◌}
use Rattle.kh_types.specs.Circles.{circles_of}
use Rattle.kh_types.specs.Walks.{IsWalked}
use Rattle.circle_smoothing.proofs.walk.circles_of.Given as goal

abbrev pub invariant-arcs : goal.invariant-arcs
invariant-arcs l = IsWalked (circles_of l.smoothings l.state) l.circles.items (l.place + 1)
