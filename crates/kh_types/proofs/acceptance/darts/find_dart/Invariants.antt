use Rattle.std.proofs.Common.{◌≡◌, map, Bool}
use Rattle.std.specs.Prelude.{None}
use Rattle.std.specs.List.{find, range_with_len}
use Rattle.kh_types.specs.declared.dart.Dart.{Dart}
use Rattle.kh_types.specs.Darts.{dart_at, IsDart}
use Rattle.kh_types.proofs.acceptance.darts.find_dart.Given as goal

abbrev pub invariant-loop-place : goal.invariant-loop-place
invariant-loop-place g l =
    (passes : Dart → Bool)
    → ((dart : Dart) (r : Bool) → IsDart l.crossings dart → goal.F-post g l.test dart r → r ≡ passes dart)
    → find passes (map dart_at (range_with_len 0 l.place)) ≡ None
