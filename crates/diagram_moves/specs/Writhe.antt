-- The writhe, and what a move does to it.
use Rattle.std.specs.Prelude.{ℤ, pos, neg_ℤ, ◌-ℤ◌, if◌then◌else◌}
use Rattle.kh_types.specs.Code.{Code}
use Rattle.kh_types.specs.Directions.{plus_count, minus_count, sign_of}
use Rattle.diagram_moves.specs.declared.change.Move.{Move}
use Rattle.diagram_moves.specs.declared.change.Move.TheVariants.{KinkAdd, KinkDrop, FingerAdd, FingerDrop, Slide}

-- the writhe of a code: its positive crossings less its negative ones
abbrev pub writhe : Code → ℤ
writhe code = pos (plus_count code.crossings) -ℤ pos (minus_count code.crossings)

-- by how much a move changes it: a kink that is added brings its sign, and one that is dropped takes it away
abbrev pub writhe_change : Code → Move → ℤ
writhe_change code (KinkAdd arc under_first positive) = if positive then pos 1 else neg_ℤ (pos 1)
writhe_change code (KinkDrop crossing) = neg_ℤ (sign_of code.crossings crossing)
writhe_change code (FingerAdd over over_side under under_side) = pos 0
writhe_change code (FingerDrop first second) = pos 0
writhe_change code (Slide first second third) = pos 0
