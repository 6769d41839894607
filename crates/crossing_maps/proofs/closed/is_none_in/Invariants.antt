use Rattle.std.proofs.Common.{◌≡◌, take, true}
use Rattle.added_crossing_laws.specs.Steps.{is_none_in}
use Rattle.crossing_maps.proofs.closed.is_none_in.Given as goal

abbrev pub invariant-arcs : goal.invariant-arcs
invariant-arcs l = is_none_in (take l.arc-index l.opened) l.classes l.class ≡ true
