-- Codes with fewer loops: they are accepted, and have fewer circles and generators.
use Rattle.std.proofs.Common.{◌≡◌, ℕ, ◌+◌, ◌≤◌, ◌∙◌, sym, ap, arith, IsTrue}
use Rattle.std.proofs.Math.Nat.{pow-le-pow_right}
use Rattle.std.proofs.lemmas.List.Sums.{sum_by-le-sum_by}
use Rattle.kh_types.specs.Acceptance.{accepted}
use Rattle.kh_types.specs.Circles.{circle_count, smoothings_of}
use Rattle.kh_types.specs.Classes.{class_count, classes_of}
use Rattle.kh_types.specs.Code.{Code, arc_count}
use Rattle.kh_types.specs.Generators.{states}
use Rattle.kh_types.proofs.ClassCounts.{AreBelow-wider, class_count-circles, class_count-wider}
use Rattle.circle_smoothing.specs.GeneratorCounts.{generator_count, label_count}
use Rattle.circle_smoothing.specs.declared.limits.TheConstants.{GENERATORS}
use Rattle.link_algebra.proofs.UnitedCircles.{HoldsNames-accepted, smoothings-small}
use Rattle.union_laws.specs.Loops.{with_loops}
use Rattle.union_laws.proofs.Loops.{fewer-loops}

-- each loop is one circle more
circle_count-loops : (code : Code) (state : ℕ) → IsTrue (accepted code)
    → circle_count code state + 1
    ≡ class_count (classes_of (arc_count code.crossings + 1) (smoothings_of code.crossings state)) + code.loops
circle_count-loops code state is =
    let m = arc_count code.crossings + 1 in
    let pairs = smoothings_of code.crossings state in
    let small = smoothings-small state 0 m code.crossings (HoldsNames-accepted code is) in
    let e : arc_count code.crossings + code.loops + 1 ≡ m + code.loops = omega arith in
    sym (class_count-circles code state (AreBelow-wider m (arc_count code.crossings + code.loops + 1) pairs (omega arith) small))
    ∙ ap (λ k. class_count (classes_of k pairs)) e ∙ class_count-wider m code.loops pairs small

-- a code with fewer loops has no more generators
pub generator_count-loops : (code : Code) (k : ℕ) → IsTrue (accepted code) → k ≤ code.loops
    → generator_count (with_loops code k) ≤ generator_count code
generator_count-loops code k is few =
    let bare = with_loops code k in
    let bare_is = fewer-loops code k is few in
    sum_by-le-sum_by (label_count bare) (label_count code) (states code)
    (λ state.
    let less : circle_count bare state ≤ circle_count code state =
    omega (arith, few, circle_count-loops code state is, circle_count-loops bare state bare_is) in
    pow-le-pow_right {n = 2} (omega arith) less)

-- a code without its loops
pub accepted-bare : (code bare : Code) → IsTrue (accepted code) → bare ≡ with_loops code 0 → IsTrue (accepted bare)
accepted-bare code bare is is_bare = rw is_bare (fewer-loops code 0 is (omega arith))

pub generator_count-bare : (code bare : Code) → IsTrue (accepted code) → generator_count code ≤ GENERATORS → bare ≡ with_loops code 0
    → generator_count bare ≤ GENERATORS
generator_count-bare code bare is size is_bare =
    rw is_bare (omega (arith, size, generator_count-loops code 0 is (omega arith)))
