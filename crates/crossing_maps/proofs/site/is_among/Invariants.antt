use Rattle.std.proofs.Common.{◌≡◌, take, false}
use Rattle.std.specs.Prelude.{nat_eq}
use Rattle.std.specs.List.{list_any}
use Rattle.crossing_maps.proofs.site.is_among.Given as goal

abbrev pub invariant-arcs : goal.invariant-arcs
invariant-arcs l = list_any (nat_eq l.arc) (take l.other-index l.arcs) ≡ false
