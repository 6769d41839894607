use Rattle.std.proofs.Common.{◌≡◌, map}
use Rattle.std.specs.List.{range_with_len}
use Rattle.circle_smoothing.specs.Prepared.{start_in}
use Rattle.circle_smoothing.proofs.tables.starts_of.Given as goal

abbrev pub invariant-loop-arc : goal.invariant-loop-arc
invariant-loop-arc l = l.starts.items ≡ map (start_in l.arcs) (range_with_len 0 l.arc)
