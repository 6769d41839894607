use Rattle.std.proofs.Common.{◌≡◌}
use Rattle.morse_drawing.specs.OpenEnds.{pairs_before}
use Rattle.morse_drawing.proofs.open_ends.found_pairs.Given as goal

abbrev pub invariant-darts : goal.invariant-darts
invariant-darts l = l.pairs.items ≡ pairs_before l.others l.dart
