-- The tables of a prepared diagram.
use Rattle.std.proofs.lemmas.Bool.Decides.{nat_tests}
use Rattle.std.proofs.Common.{◌≡◌, ℕ, zero, suc, ◌+◌, ◌*◌, ◌<◌, ◌∙◌, List, [], ◌∷◌, sym, ap, subst, length, map, arith, IsTrue}
use Rattle.std.specs.Prelude.{slice_index}
use Rattle.std.specs.List.{range_with_len}
use Rattle.std.proofs.lemmas.Bool.{cases_eq, eq-eqb, eqb-true, false_from_ne_true}
use Rattle.std.proofs.lemmas.List.{get_or-map}
use Rattle.std.proofs.lemmas.List.FromFn.{get_or-range_with_len, length-map-range_with_len, length-range_with_len}
use Rattle.kh_types.specs.Acceptance.{accepted}
use Rattle.kh_types.specs.Code.{Code, IsArc}
use Rattle.kh_types.specs.Darts.{arc_of, dart_at, dart_place, first_dart, partner_at, HasArcsTwice}
use Rattle.kh_types.proofs.AcceptedLemmas.{HasArcsTwice-accepted}
use Rattle.kh_types.proofs.DartPairs.{IsDart-at, IsDartOf-first_dart, IsPairing-partner_at, dart_at-place, dart_place-below}
use Rattle.kh_types.proofs.Ranges.{map_from_zero}
use Rattle.circle_smoothing.specs.Prepared.{HasStarts, arcs_at, partners_at, start_in}
use Rattle.kh_types.specs.CircleSteps.{arc_at}

-- what a table made from a range has at a place
pub slice_index-table : (f : ℕ → ℕ) (n place : ℕ) → place < n → slice_index (map f (range_with_len 0 n)) place ≡ f place
slice_index-table f n place below =
    let e : 0 + place ≡ place = omega arith in
    get_or-map f (range_with_len 0 n) place 0 0 (omega (arith, below, length-range_with_len 0 n))
    ∙ ap f (get_or-range_with_len 0 n place 0 below ∙ e)

-- a number that a list has stands at its first place
first-place : (xs : List ℕ) (x k : ℕ) → k < length xs → slice_index xs k ≡ x
    → (start_in xs x < length xs) × (slice_index xs (start_in xs x) ≡ x)
first-place [] x k below is = absurd (omega (arith, below))
first-place (y ∷ ys) x zero below is = grind (arith, nat_tests, eq-eqb)
first-place (y ∷ ys) x (suc k) below is =
    grind (arith, nat_tests, cases_eq, eq-eqb, false_from_ne_true, eqb-true, first-place ys x k (omega (arith, below)) is)

pub length-arcs_at : (crossings : List (List ℕ)) → length (arcs_at crossings) ≡ 4 * length crossings
length-arcs_at crossings = length-map-range_with_len (arc_at crossings) 0 (4 * length crossings)

pub length-partners_at : (crossings : List (List ℕ)) → length (partners_at crossings) ≡ 4 * length crossings
length-partners_at crossings = length-map-range_with_len (partner_at crossings) 0 (4 * length crossings)

-- the arc and the partner of a dart, in lists that are these

pub slice_index-arcs : (crossings : List (List ℕ)) (arcs : List ℕ) (place : ℕ) → arcs ≡ arcs_at crossings
    → place < 4 * length crossings → slice_index arcs place ≡ arc_at crossings place
slice_index-arcs crossings arcs place are below = grind (arith, nat_tests, slice_index-table)

pub slice_index-partners : (crossings : List (List ℕ)) (partners : List ℕ) (place : ℕ) → partners ≡ partners_at crossings
    → place < 4 * length crossings → slice_index partners place ≡ partner_at crossings place
slice_index-partners crossings partners place are below = grind (arith, nat_tests, slice_index-table)

pub IsArc-in_table : (code : Code) (arcs : List ℕ) (place : ℕ) → IsTrue (accepted code) → arcs ≡ arcs_at code.crossings
    → place < 4 * length code.crossings → IsArc code.crossings (slice_index arcs place)
IsArc-in_table code arcs place is are below =
    subst (λ (arc : ℕ). IsArc code.crossings arc) (sym (slice_index-arcs code.crossings arcs place are below))
    ((HasArcsTwice-accepted code is).slots (dart_at place) (IsDart-at code.crossings place below))

pub partner-below : (code : Code) (partners : List ℕ) (place : ℕ) → IsTrue (accepted code) → partners ≡ partners_at code.crossings
    → place < 4 * length code.crossings → slice_index partners place < 4 * length code.crossings
partner-below code partners place is are below =
    let there = (IsPairing-partner_at code.crossings (HasArcsTwice-accepted code is)).below place below in
    omega (arith, there, slice_index-partners code.crossings partners place are below)

-- each arc has a first dart
start-on_arc : (crossings : List (List ℕ)) (arc : ℕ) → HasArcsTwice crossings → IsArc crossings arc
    → (start_in (arcs_at crossings) arc < 4 * length crossings) × (arc_at crossings (start_in (arcs_at crossings) arc) ≡ arc)
start-on_arc crossings arc twice is =
    let dart = IsDartOf-first_dart crossings arc twice is in
    let place = dart_place (first_dart crossings arc) in
    let size = length-arcs_at crossings in
    let below = dart_place-below crossings (first_dart crossings arc) dart.within in
    let on_arc : slice_index (arcs_at crossings) place ≡ arc =
    slice_index-table (arc_at crossings) (4 * length crossings) place below
    ∙ ap (λ d. arc_of crossings d) (dart_at-place crossings (first_dart crossings arc) dart.within) ∙ dart.on_arc in
    let first = first-place (arcs_at crossings) arc place (omega (arith, size, below)) on_arc in
    let within : start_in (arcs_at crossings) arc < 4 * length crossings = omega (arith, size, first.0) in
    (within, sym (slice_index-table (arc_at crossings) (4 * length crossings) (start_in (arcs_at crossings) arc) within) ∙ first.1)

pub HasStarts-table : (code : Code) (arcs starts : List ℕ) → IsTrue (accepted code) → arcs ≡ arcs_at code.crossings
    → starts ≡ map (start_in arcs) (range_with_len 0 (2 * length code.crossings + 1)) → HasStarts code.crossings starts
HasStarts-table code arcs starts is is_arcs are =
    grind (arith, nat_tests, HasArcsTwice-accepted, slice_index-table, length-map-range_with_len, start-on_arc)

pub ruleset tables = (map_from_zero, length-map-range_with_len, length-range_with_len, IsDart-at, length-arcs_at)
