use Rattle.std.proofs.Common.{◌≡◌, map}
use Rattle.std.specs.List.{range_with_len}
use Rattle.kh_types.specs.Directions.{sign_of}
use Rattle.gauss_code.proofs.diagram_labels.signs_of.Given as goal

-- the signs of the crossings so far
abbrev pub invariant-loop-before : goal.invariant-loop-before
invariant-loop-before l = l.signs.items ≡ map (sign_of l.diagram.crossings) (range_with_len 1 l.before)
