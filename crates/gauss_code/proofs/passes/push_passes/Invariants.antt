use Rattle.std.proofs.Common.{◌≡◌, ◌++◌, map}
use Rattle.std.specs.List.{range_with_len}
use Rattle.code_passes.specs.Passes.{pass_at, turned_labels}
use Rattle.gauss_code.proofs.passes.push_passes.Given as goal

-- the passes that were there, and then the ones so far
abbrev pub invariant-loop-at : goal.invariant-loop-at
invariant-loop-at l =
    l.passes.items ≡ l.initial.passes.items ++ map (pass_at l.first (turned_labels l.labels)) (range_with_len 0 l.at)
