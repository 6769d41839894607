-- What keeps a move from being made: ten faults, each by its own test.
use Rattle.std.specs.Prelude.{ℕ, ◌+◌, List, length, nat_eq, nat_lt, Bool, not, ◌||◌, if◌then◌else◌, Option, Some, None, is_none}
use Rattle.std.specs.Option.{option_or}
use Rattle.kh_types.specs.Code.{Code, arc_count, place_of, slots_of}
use Rattle.kh_types.specs.Faces.{face_count, planar_face_count}
use Rattle.kh_types.specs.declared.limits.TheConstants.{CROSSINGS}
use Rattle.kink_and_finger_laws.specs.Drops.{is_kink, is_bigon}
use Rattle.kink_and_finger_laws.specs.FingerAdd.{with_finger}
use Rattle.slide_laws.specs.Triangles.{has_triangle, slide_slot}
use Rattle.diagram_moves.specs.declared.fault.MoveFault.{MoveFault}
use Rattle.diagram_moves.specs.declared.fault.MoveFault.TheVariants.{NoArc, NoCrossing, CrossingLimit, OnLoop, SameArc, NoKink, NoBigon, NoTriangle, Heights, Genus}

-- a fault, where a test holds
abbrev pub refused_where : Bool → MoveFault → Option MoveFault
refused_where holds fault = if holds then Some fault else None

-- an arc is 0, or above the arcs and the loops
abbrev pub no_arc : Code → ℕ → Option MoveFault
no_arc code arc = refused_where (nat_eq arc 0 || nat_lt (arc_count code.crossings + code.loops) arc) (NoArc arc)

-- a crossing is 0, or above the number of crossings
abbrev pub no_crossing : Code → ℕ → Option MoveFault
no_crossing code crossing = refused_where (nat_eq crossing 0 || nat_lt (length code.crossings) crossing) (NoCrossing crossing)

-- so many crossings more are too many
abbrev pub crossing_limit_fault : Code → ℕ → Option MoveFault
crossing_limit_fault code more =
    refused_where (nat_lt CROSSINGS (length code.crossings + more)) (CrossingLimit (length code.crossings + more))

-- an arc is a loop: it is above the arcs that meet crossings
abbrev pub on_loop : Code → ℕ → Option MoveFault
on_loop code arc = refused_where (nat_lt (arc_count code.crossings) arc) (OnLoop arc)

-- the two arcs are one
abbrev pub same_arc : ℕ → ℕ → Option MoveFault
same_arc over under = refused_where (nat_eq over under) (SameArc over)

-- no arc stands at two slots of the crossing that follow one another
abbrev pub no_kink : Code → ℕ → Option MoveFault
no_kink code crossing = refused_where (not (is_kink (slots_of code.crossings crossing))) (NoKink crossing)

-- the two crossings meet in no bigon
abbrev pub no_bigon : Code → ℕ → ℕ → Option MoveFault
no_bigon code first second =
    refused_where (not (is_bigon code.crossings (place_of first) (place_of second))) (NoBigon first second)

-- there is no triangle at the three crossings
abbrev pub no_triangle : Code → ℕ → ℕ → ℕ → Option MoveFault
no_triangle code first second third =
    refused_where (not (has_triangle code.crossings first second third)) (NoTriangle first second third)

-- in each triangle at the three crossings the three slots have one parity
abbrev pub no_heights : Code → ℕ → ℕ → ℕ → Option MoveFault
no_heights code first second third = refused_where (is_none (slide_slot code.crossings first second third)) Heights

-- the faces are not as many as those of a drawing on the sphere
abbrev pub wrong_genus : List (List ℕ) → Option MoveFault
wrong_genus crossings =
    refused_where (not (nat_eq (face_count crossings) (planar_face_count crossings)))
    (Genus (face_count crossings) (planar_face_count crossings))

-- the first fault of a kink that is added
abbrev pub kink_add_fault : Code → ℕ → Option MoveFault
kink_add_fault code arc = option_or (no_arc code arc) (option_or (crossing_limit_fault code 1) (on_loop code arc))

-- of a kink that is dropped
abbrev pub kink_drop_fault : Code → ℕ → Option MoveFault
kink_drop_fault code crossing = option_or (no_crossing code crossing) (no_kink code crossing)

-- of a finger that is added, but for the faces
abbrev pub finger_place_fault : Code → ℕ → ℕ → Option MoveFault
finger_place_fault code over under =
    option_or (no_arc code over)
    (option_or (no_arc code under)
    (option_or (crossing_limit_fault code 2)
    (option_or (on_loop code over) (option_or (on_loop code under) (same_arc over under)))))

-- of a finger that is added
abbrev pub finger_add_fault : Code → ℕ → Bool → ℕ → Bool → Option MoveFault
finger_add_fault code over over_left under under_left =
    option_or (finger_place_fault code over under) (wrong_genus (with_finger code over over_left under under_left).crossings)

-- of a finger that is dropped
abbrev pub finger_drop_fault : Code → ℕ → ℕ → Option MoveFault
finger_drop_fault code first second =
    option_or (no_crossing code first) (option_or (no_crossing code second) (no_bigon code first second))

-- of a slide
abbrev pub slide_fault : Code → ℕ → ℕ → ℕ → Option MoveFault
slide_fault code first second third =
    option_or (no_crossing code first)
    (option_or (no_crossing code second)
    (option_or (no_crossing code third)
    (option_or (no_triangle code first second third) (no_heights code first second third))))
