use Rattle.std.proofs.Common.{◌≡◌, take}
use Rattle.std.specs.List.{range_with_len, fold}
use Rattle.kh_types.specs.Classes.{joined}
use Rattle.kh_types.proofs.classes.classes_of.Given as goal

abbrev pub invariant-loop-pair : goal.invariant-loop-pair
invariant-loop-pair l = l.classes.items ≡ fold joined (range_with_len 0 l.count) (take l.pair-index l.pairs)
