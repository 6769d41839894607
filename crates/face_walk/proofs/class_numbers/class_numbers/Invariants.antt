use Rattle.std.proofs.Common.{◌≡◌, map}
use Rattle.std.specs.List.{range_with_len}
use Rattle.face_walk.specs.ClassNumbers.{class_number}
use Rattle.face_walk.proofs.class_numbers.class_numbers.Given as goal

abbrev pub invariant-loop-place : goal.invariant-loop-place
invariant-loop-place l = l.numbers.items ≡ map (class_number l.classes) (range_with_len 0 l.place)
