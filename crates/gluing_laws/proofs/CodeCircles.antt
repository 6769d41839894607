-- The circles of a code's state by its darts, and the bits of states with one crossing more.
--
-- A code is glued to another along arcs, and Glued compares classes of pairs of any numbers under names. To use it on a state of a code,
-- the circles of the state have to be such classes. So the smoothings of a state are said of darts: there they are pairs of the numbers 0
-- to 4n - 1, which depend on the state and on n alone, and not on the code (`dart_smoothings`). The arc of each dart is then its name, and
-- the smoothings of the code are those pairs under that name (`smoothings_of-darts`); names are below the number of arcs and loops, and 0
-- is none of them, so that its class is one that is no circle. Two codes of as many crossings have the same pairs of darts, and differ in
-- names alone: that is what renumberings, kinks, fingers and slides compare. The last part is for codes of one crossing more: its smoothing
-- is the last pair of pairs, and its bit the highest of the state, so that sums over states split into two halves.
use Rattle.std.proofs.lemmas.Bool.Decides.{nat_tests}
use Rattle.std.proofs.Common.{◌≡◌, ℕ, zero, suc, ◌+◌, ◌*◌, ◌/◌, ◌%◌, ◌^◌, ◌<◌, ◌≤◌, ◌∙◌, List, [], ◌∷◌, ◌++◌, sym, refl, length, ap, ap₂, arith, Bool, cond}
use Rattle.std.specs.Prelude.{slice_index_or}
use Rattle.std.specs.List.{flat_map, enumerate_from, range_with_len}
use Rattle.std.proofs.Math.Nat.{div-eq_of_lt}
use Rattle.std.proofs.lemmas.List.{map-append}
use Rattle.std.proofs.lemmas.Bool.{eq-eqb}
use Rattle.kh_types.specs.Bits.{bit}
use Rattle.kh_types.specs.Code.{Code, arc_in}
use Rattle.kh_types.specs.Classes.{class_count, AreBelow}
use Rattle.kh_types.specs.Circles.{smoothing_of, smoothings_of, circles_of, circle_count}
use Rattle.gluing_laws.specs.Arcs.{arc_by_place}
use Rattle.kh_types.proofs.JoinedClasses.{IsNamed-classes_of}
use Rattle.kh_types.proofs.ClassLemmas.{AreBelow-append}
use Rattle.gluing_laws.specs.Glue.{renamed}
use Rattle.gluing_laws.specs.Codes.{arc_of_dart, name_count}
use Rattle.gluing_laws.proofs.DartPairs.{darts_of, dart_smoothings}
pub use Rattle.std.proofs.lemmas.List.{append-nil as append-nothing}
pub use Rattle.kh_types.proofs.LabelDegrees.{ones-lower as ones-not_highest}
pub use Rattle.kh_types.proofs.LabelDegrees.{ones-upper as ones-highest}

-- smoothings, on any four names

abbrev pub smoothing_by : Bool → ℕ → ℕ → ℕ → ℕ → List (ℕ × ℕ)
smoothing_by is_zero w x y z = cond is_zero ((w, x) ∷ (y, z) ∷ []) ((w, z) ∷ (x, y) ∷ [])

pub smoothing_by-same : (is_zero : Bool) (w x y z a b c d : ℕ) → w ≡ a → x ≡ b → y ≡ c → z ≡ d
    → smoothing_by is_zero w x y z ≡ smoothing_by is_zero a b c d
smoothing_by-same is_zero w x y z a b c d is_a is_b is_c is_d = grind (arith, nat_tests)

pub smoothing_by-below : (n : ℕ) (is_zero : Bool) (w x y z : ℕ) → w < n → x < n → y < n → z < n → AreBelow n (smoothing_by is_zero w x y z)
smoothing_by-below n is_zero w x y z w_below x_below y_below z_below = grind (arith, nat_tests)

-- the smoothings of a code are those of its darts, each dart standing for its arc

abbrev at_dart : (ℕ → ℕ → ℕ) → ℕ → ℕ
at_dart arc dart = arc (dart / 4) (dart % 4)

pub smoothing_of-darts : (arc : ℕ → ℕ → ℕ) (smoothing place : ℕ) (quadruple : List ℕ)
    → ((slot : ℕ) → slot < 4 → arc_in quadruple slot ≡ arc place slot)
    → smoothing_of smoothing quadruple ≡ renamed (at_dart arc) (smoothing_of smoothing (darts_of place))
smoothing_of-darts arc smoothing place quadruple same = grind (arith, nat_tests)

pub smoothings-from : (arc : ℕ → ℕ → ℕ) (state at : ℕ) (xs : List (List ℕ))
    → ((k slot : ℕ) → k < length xs → slot < 4 → arc_in (slice_index_or xs k []) slot ≡ arc (at + k) slot)
    → flat_map (λ c. smoothing_of (bit state c.0) c.1) (enumerate_from at xs)
    ≡ renamed (at_dart arc) (flat_map (λ place. smoothing_of (bit state place) (darts_of place)) (range_with_len at (length xs)))
smoothings-from arc state at [] same = refl
smoothings-from arc state at (x ∷ xs) same =
    let here : at + 0 ≡ at = omega arith in
    let more = flat_map (λ place. smoothing_of (bit state place) (darts_of place)) (range_with_len (at + 1) (length xs)) in
    ap₂ (λ ps qs. ps ++ qs)
    (smoothing_of-darts arc (bit state at) at x (λ slot below. same 0 slot (omega arith) below ∙ ap (λ k. arc k slot) here))
    (smoothings-from arc state (at + 1) xs (λ k slot below slot_below.
    let next : at + (k + 1) ≡ at + 1 + k = omega arith in
    let e : k + 1 ≡ suc k = omega arith in
    let shifted : slice_index_or (x ∷ xs) (k + 1) [] ≡ slice_index_or xs k [] = ap (λ j. slice_index_or (x ∷ xs) j []) e in
    sym (ap (λ q. arc_in q slot) shifted) ∙ same (k + 1) slot (omega arith) slot_below ∙ ap (λ j. arc j slot) next))
    ∙ sym (map-append (λ pair. (at_dart arc pair.0, at_dart arc pair.1)) (smoothing_of (bit state at) (darts_of at)) more)

pub smoothings_of-darts : (crossings : List (List ℕ)) (state : ℕ)
    → smoothings_of crossings state ≡ renamed (arc_of_dart crossings) (dart_smoothings (length crossings) state)
smoothings_of-darts crossings state =
    smoothings-from (arc_by_place crossings) state 0 crossings
    (λ k slot below slot_below. let e : k ≡ 0 + k = omega arith in ap (λ j. arc_by_place crossings j slot) e)

pub dart_smoothings-from : (n state at count : ℕ) → at + count ≤ n
    → AreBelow (4 * n) (flat_map (λ place. smoothing_of (bit state place) (darts_of place)) (range_with_len at count))
dart_smoothings-from n state at zero within = tt
dart_smoothings-from n state at (suc count) within =
    grind (arith, nat_tests, AreBelow-append, darts_of, smoothing_by-below, dart_smoothings-from n state (at + 1) count (omega arith))

pub dart_smoothings-below : (count state : ℕ) → AreBelow (4 * count) (dart_smoothings count state)
dart_smoothings-below count state = dart_smoothings-from count state 0 count (omega arith)

-- the number 0 is a class of its own, which is no circle
pub class_count-circles : (code : Code) (state : ℕ) → AreBelow (name_count code) (smoothings_of code.crossings state)
    → class_count (circles_of code state) ≡ circle_count code state + 1
class_count-circles code state below = grind (arith, nat_tests, IsNamed-classes_of, eq-eqb)

-- states of one crossing more: the new bit is the highest

pub bit-above : (n state : ℕ) → state < 2 ^ n → bit state n ≡ 0
bit-above n state below = ap (λ q. q % 2) (div-eq_of_lt below)

-- one crossing more, at the end of the list
