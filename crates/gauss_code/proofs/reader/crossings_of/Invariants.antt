use Rattle.std.proofs.Common.{◌≡◌, map}
use Rattle.std.specs.List.{range_with_len}
use Rattle.code_passes.specs.Passes.{slots_by_passes}
use Rattle.gauss_code.proofs.reader.crossings_of.Given as goal

-- the crossings so far
abbrev pub invariant-loop-at : goal.invariant-loop-at
invariant-loop-at l = l.crossings.items ≡ map (slots_by_passes l.passes l.signs) (range_with_len 0 l.at)
