-- The nine rules of acceptance, each as the first fault against it.
use Rattle.std.specs.Prelude.{ℕ, ◌+◌, List, [], ◌∷◌, nat_eq, nat_lt, Bool, not, ◌&&◌, ◌||◌, Option, Some, None, is_none, if◌then◌else◌}
use Rattle.std.specs.List.{list_any, range_with_len}
use Rattle.std.specs.Option.{option_or}
use Rattle.kh_types.specs.Code.{Code, arc_in, place_of, slots_of, crossing_numbers, arc_count, arcs}
use Rattle.kh_types.specs.Classes.{is_least}
use Rattle.kh_types.specs.Components.{components_of, component_of, component_count, arcs_in, is_interval, next_in}
use Rattle.kh_types.specs.Darts.{dart_at, dart_count, arc_of, times}
use Rattle.kh_types.specs.Checkerboard.{has_choice}
use Rattle.kh_types.specs.Faces.{face_count, planar_face_count}
use Rattle.kh_types.specs.declared.limits.TheConstants.{COMPONENTS}
use Rattle.kh_types.specs.declared.fault.CodeFault.{CodeFault}
use Rattle.kh_types.specs.declared.fault.CodeFault.TheVariants.{ArcRange, ArcTimes, Interval, Under, Over, TwoArc, Checkerboard, Genus, Components}

-- a fault, where a test holds
abbrev pub fault_if : Bool → CodeFault → Option CodeFault
fault_if holds fault = if holds then Some fault else None

-- the first fault that one of some numbers has
abbrev pub first_of : (ℕ → Option CodeFault) → List ℕ → Option CodeFault
first_of fault_at [] = None
first_of fault_at (x ∷ xs) = option_or (fault_at x) (first_of fault_at xs)

-- a slot holds a number that is no arc
abbrev pub arc_range_at : List (List ℕ) → ℕ → Option CodeFault
arc_range_at crossings place =
    let arc = arc_of crossings (dart_at place) in
    fault_if (nat_lt arc 1 || nat_lt (arc_count crossings) arc) (ArcRange (dart_at place).crossing (dart_at place).slot)

-- the first slot, in order of crossing, then slot, that holds no arc
abbrev pub arc_range_fault : List (List ℕ) → Option CodeFault
arc_range_fault crossings = first_of (arc_range_at crossings) (range_with_len 0 (dart_count crossings))

-- an arc does not stand exactly twice
abbrev pub arc_times_at : List (List ℕ) → ℕ → Option CodeFault
arc_times_at crossings arc = fault_if (not (nat_eq (times crossings arc) 2)) (ArcTimes arc (times crossings arc))

-- the least arc that does not stand exactly twice
abbrev pub arc_times_fault : List (List ℕ) → Option CodeFault
arc_times_fault crossings = first_of (arc_times_at crossings) (arcs crossings)

-- an arc is the least of a component that is no interval
abbrev pub interval_at : List ℕ → ℕ → Option CodeFault
interval_at components arc = fault_if (is_least components arc && not (is_interval components arc)) (Interval arc)

-- the first component, by its least arc, that is no interval
abbrev pub interval_fault : List (List ℕ) → Option CodeFault
interval_fault crossings = first_of (interval_at (components_of crossings)) (arcs crossings)

-- the under pass of a crossing goes to another arc than the next
abbrev pub under_at : List (List ℕ) → List ℕ → ℕ → Option CodeFault
under_at crossings components crossing =
    let slots = slots_of crossings crossing in
    fault_if (not (nat_eq (arc_in slots 2) (next_in components (arc_in slots 0)))) (Under crossing)

-- the first crossing, in list order, whose under pass goes to another arc than the next
abbrev pub under_fault : List (List ℕ) → Option CodeFault
under_fault crossings = first_of (under_at crossings (components_of crossings)) (crossing_numbers crossings)

-- neither of the two arcs of the over pass of a crossing is the next of the other
abbrev pub over_at : List (List ℕ) → List ℕ → ℕ → Option CodeFault
over_at crossings components crossing =
    let slots = slots_of crossings crossing in
    fault_if
    (not (nat_eq (arc_in slots 3) (next_in components (arc_in slots 1)))
    && not (nat_eq (arc_in slots 1) (next_in components (arc_in slots 3))))
    (Over crossing)

-- the first crossing, in list order, at which neither arc of the over pass is the next of the other
abbrev pub over_fault : List (List ℕ) → Option CodeFault
over_fault crossings = first_of (over_at crossings (components_of crossings)) (crossing_numbers crossings)

-- a crossing's under pass is in a component of two arcs, and an earlier crossing has an under pass in the same direction,
-- which is one that comes in on the same arc
abbrev pub two_arc_at : List (List ℕ) → List ℕ → ℕ → Option CodeFault
two_arc_at crossings components crossing =
    let incoming = arc_in (slots_of crossings crossing) 0 in
    fault_if
    (nat_eq (arcs_in components (component_of components incoming)) 2
    && list_any (λ earlier. nat_eq (arc_in (slots_of crossings earlier) 0) incoming) (range_with_len 1 (place_of crossing)))
    (TwoArc crossing)

-- the first crossing, in list order, whose under pass is the second in one direction on a component of two arcs
abbrev pub two_arc_fault : List (List ℕ) → Option CodeFault
two_arc_fault crossings = first_of (two_arc_at crossings (components_of crossings)) (crossing_numbers crossings)

-- the checkerboard equations of the arcs up to this one have no solution together
abbrev pub checkerboard_at : List (List ℕ) → ℕ → Option CodeFault
checkerboard_at crossings arc = fault_if (not (has_choice crossings arc)) (Checkerboard arc)

-- the least arc up to which the checkerboard equations have no solution together
abbrev pub checkerboard_fault : List (List ℕ) → Option CodeFault
checkerboard_fault crossings = first_of (checkerboard_at crossings) (arcs crossings)

-- the number of faces is not that of a drawing on the sphere
abbrev pub genus_fault : List (List ℕ) → Option CodeFault
genus_fault crossings =
    fault_if (not (nat_eq (face_count crossings) (planar_face_count crossings)))
    (Genus (face_count crossings) (planar_face_count crossings))

-- components and loops together are too many
abbrev pub components_fault : Code → Option CodeFault
components_fault code =
    let count = component_count code.crossings + code.loops in
    fault_if (nat_lt COMPONENTS count) (Components count)

-- the first rule that a code breaks, of those that make it a directed code
abbrev pub direction_fault : List (List ℕ) → Option CodeFault
direction_fault crossings =
    option_or (arc_range_fault crossings)
    (option_or (arc_times_fault crossings)
    (option_or (interval_fault crossings)
    (option_or (under_fault crossings)
    (option_or (over_fault crossings) (two_arc_fault crossings)))))

-- the first rule that a code breaks
unfoldable pub first_fault : Code → Option CodeFault
first_fault code =
    option_or (direction_fault code.crossings)
    (option_or (checkerboard_fault code.crossings)
    (option_or (genus_fault code.crossings) (components_fault code)))

-- a code is accepted where it breaks no rule
unfoldable pub accepted : Code → Bool
accepted code = is_none (first_fault code)
