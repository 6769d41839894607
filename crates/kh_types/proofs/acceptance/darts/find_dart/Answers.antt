use Rattle.std.proofs.lemmas.Bool.Decides.{nat_tests}
use Rattle.std.proofs.Common.{arith, ◌≡◌, ◌*◌, length, true, ap, sym, subst, ◌∙◌}
use Rattle.std.specs.Prelude.{unwrap_or}
use Rattle.kh_types.specs.Darts.{dart_at, IsDart}
use Rattle.kh_types.proofs.Ranges.{find-map_range, find-map_range_more}
use Rattle.kh_types.proofs.DartPairs.{IsDart-at}
use Rattle.kh_types.proofs.acceptance.darts.find_dart.Goals as goal

pub returns-then-test-clause-first : goal.returns-then-test-clause-first
returns-then-test-clause-first g c = λ passes same.
    let crossings = c.args.crossings.now in
    let place = c.loop-place.place in
    let is_dart = c.dart_at-dart.ensures in
    let within = subst (IsDart crossings) (sym is_dart) (IsDart-at crossings place c.loop-place-test.true) in
    let passed : passes (dart_at place) ≡ true =
    ap passes (sym is_dart) ∙ sym (same c.dart_at-dart.result c.test.result within c.test.ensures) ∙ c.if-test.true in
    is_dart
    ∙ sym (ap (λ o. unwrap_or o c.args.otherwise)
    (find-map_range passes dart_at (4 * length crossings) place c.loop-place-test.true (c.loop-place.invariant passes same) passed))

pub loop-place-preserved : goal.loop-place-preserved
loop-place-preserved = grind (arith, nat_tests, IsDart-at, find-map_range_more)
