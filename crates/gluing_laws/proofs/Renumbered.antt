-- Renumbering the arcs of a code keeps the state sum.
use Rattle.std.proofs.Common.{◌≡◌, ℕ, ◌*◌, ◌/◌, ◌%◌, ◌^◌, ◌∙◌, ℤ, sym, length, map, ap, ap₂, arith}
use Rattle.std.specs.List.{range_with_len}
use Rattle.kh_types.specs.Bits.{ones}
use Rattle.kh_types.specs.Code.{Code}
use Rattle.kh_types.specs.Classes.{classes_of, class_count}
use Rattle.kh_types.specs.Circles.{smoothings_of, circle_count}
use Rattle.kh_types.specs.StateSum.{int_sum, term_with, sum_with}
use Rattle.kh_types.specs.StateSum as kh
use Rattle.gluing_laws.specs.Glue.{renamed}
use Rattle.gluing_laws.specs.Codes.{arc_of_dart, name_count, HoldsArcs, IsRenumbered}
use Rattle.gluing_laws.proofs.DartPairs.{dart_smoothings}
use Rattle.gluing_laws.proofs.Renamed.{class_count-renamed}
use Rattle.gluing_laws.proofs.CodeCircles.{smoothings_of-darts, dart_smoothings-below, class_count-circles}
use Rattle.gluing_laws.proofs.Stubs.{renamed-twice}
use Rattle.gluing_laws.proofs.SlidCodes.{smoothings-hold}
use Rattle.kh_types.proofs.IntSums.{int_sum-alike}

circle_count-renumbered : (f : ℕ → ℕ) (old new : Code) → IsRenumbered f old new → HoldsArcs old → HoldsArcs new → (state : ℕ)
    → circle_count new state ≡ circle_count old state
circle_count-renumbered f old new same holds new_holds state =
    let n = length old.crossings in
    let darts = dart_smoothings n state in
    let size = same.size in
    let loops = same.loops in
    let names : name_count new ≡ name_count old = omega (arith, size, loops) in
    let old_pairs = smoothings_of-darts old.crossings state in
    let twice : renamed f (renamed (arc_of_dart old.crossings) darts) ≡ renamed (arc_of_dart new.crossings) darts =
    renamed-twice (4 * n) f (arc_of_dart old.crossings) (arc_of_dart new.crossings) darts
    (λ x below. sym (same.arcs (x / 4) (x % 4) (omega arith) (omega arith))) (dart_smoothings-below n state) in
    let new_pairs : smoothings_of new.crossings state ≡ renamed f (smoothings_of old.crossings state) =
    smoothings_of-darts new.crossings state ∙ ap (λ k. renamed (arc_of_dart new.crossings) (dart_smoothings k state)) size
    ∙ sym twice ∙ ap (λ ps. renamed f ps) (sym old_pairs) in
    let old_below = smoothings-hold old state holds in
    let law = class_count-renamed (name_count old) (name_count old) f (smoothings_of old.crossings state) old_below same.below same.apart in
    let classes = ap₂ (λ k ps. class_count (classes_of k ps)) names new_pairs in
    let first = class_count-circles old state old_below in
    let second = class_count-circles new state (smoothings-hold new state new_holds) in
    omega (arith, law, classes, first, second)

pub sum_with-renumbered : (f : ℕ → ℕ) (old new : Code) (plus minus : ℕ) → IsRenumbered f old new → HoldsArcs old → HoldsArcs new
    → (exponent : ℤ) → sum_with plus minus new exponent ≡ sum_with plus minus old exponent
sum_with-renumbered f old new plus minus same holds new_holds exponent =
    ap (λ k. int_sum (map (term_with plus minus new exponent) (range_with_len 0 (2 ^ k)))) same.size
    ∙ int_sum-alike (term_with plus minus new exponent) (term_with plus minus old exponent)
    (λ state. ap₂ (λ k c. kh.term_of plus minus exponent (ones k state) c) same.size
    (circle_count-renumbered f old new same holds new_holds state))
    (range_with_len 0 (2 ^ length old.crossings))
