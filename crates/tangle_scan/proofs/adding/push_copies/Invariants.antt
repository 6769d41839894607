use Rattle.std.proofs.Common.{◌≡◌, ◌++◌, map}
use Rattle.std.specs.List.{range_with_len}
use Rattle.tangle_scan.specs.Additions.{copy}
use Rattle.tangle_scan.proofs.adding.push_copies.Given as goal

abbrev pub invariant-labels : goal.invariant-labels
invariant-labels l = l.objects.items ≡ l.initial.objects.items ++ map (copy l.old l.split l.smoothing) (range_with_len 0 l.label)
