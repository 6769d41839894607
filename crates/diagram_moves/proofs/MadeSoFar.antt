-- What loops over crossings have made so far.
use Rattle.std.specs.Prelude.{ℕ, List, map}
use Rattle.std.specs.List.{range_with_len, filter, flat_map}
use Rattle.kink_and_finger_laws.specs.FingerAdd.{moved_slots}
use Rattle.diagram_moves.specs.AddSteps.{kinked_there}
use Rattle.kink_and_finger_laws.specs.Drops.{is_of_two}
use Rattle.diagram_moves.specs.DropSteps.{passes_there}
use Rattle.slide_laws.specs.Slid.{slid_crossing}

-- slide: the first so many crossings, slid
abbrev pub slid_to : List (List ℕ) → ℕ → ℕ → ℕ → ℕ → List (List ℕ)
slid_to crossings x y z count = map (slid_crossing crossings x y z) (range_with_len 0 count)

-- drops: the passes of the two dropped crossings, among the first so many
abbrev pub straight_to : List (List ℕ) → ℕ → ℕ → ℕ → List (ℕ × ℕ)
straight_to crossings first second count = flat_map (passes_there crossings) (filter (is_of_two first second) (range_with_len 0 count))

-- kink: the first so many crossings, on the arcs after a kink
abbrev pub kinked_to : List (List ℕ) → ℕ → ℕ → List (List ℕ)
kinked_to crossings a count = map (kinked_there crossings a) (range_with_len 0 count)

-- finger: the first so many crossings, on the arcs after a finger
abbrev pub fingered_to : List (List ℕ) → ℕ → ℕ → ℕ → List (List ℕ)
fingered_to crossings a b count = map (moved_slots crossings a b) (range_with_len 1 count)
