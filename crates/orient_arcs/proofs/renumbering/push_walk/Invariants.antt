use Rattle.std.proofs.Common.{◌≡◌, ◌-◌, ◌++◌, length}
use Rattle.orient_arcs.specs.Renumbered.{follows, walk}
use Rattle.orient_arcs.proofs.renumbering.push_walk.Given as goal

abbrev pub invariant-steps : goal.invariant-steps
invariant-steps l =
    l.order.items ++ walk (follows l.passes) l.first (length l.passes - l.counter) l.name
    ≡ l.initial.order.items ++ walk (follows l.passes) l.first (length l.passes) l.first
