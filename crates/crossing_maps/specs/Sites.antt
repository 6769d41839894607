-- Where a crossing is added: the arcs that are open before it, those near it, and those that are open after it.
use Rattle.std.specs.Prelude.{◌≡◌, ℕ, ◌+◌, ◌<◌, ◌≤◌, List, [], length, nat_eq, nat_lt, Bool, ◌||◌, slice_index_or, if◌then◌else◌}
use Rattle.std.specs.List.{filter, list_any}
use Rattle.kh_types.specs.Classes.{is_least}
use Rattle.kh_types.specs.Code.{Code, arc_count, arc_in}
use Rattle.kh_types.specs.Darts.{HasArcsTwice}
use Rattle.added_crossing_laws.specs.Steps.{is_none_in, near}
use Rattle.added_crossing_laws.specs.Codes.{points_at, step_at}
use Rattle.tangle_maps.specs.declared.pairing.TheConstants.{POINTS}

-- a code each of whose arcs has two ends, and which a program can number; and a crossing of it. Loops need no number: no pairing meets one
pub record IsPlace (code : Code) (k : ℕ) : Type 0 where
  pub twice : HasArcsTwice code.crossings
  pub crossing : k < length code.crossings
  pub fits : arc_count code.crossings + 1 ≤ POINTS

-- the arcs and the slots of the crossing that comes after the first k
pub record IsSite (code : Code) (k : ℕ) (opened around next slots : List ℕ) : Type 0 where
  pub before : opened ≡ (points_at code k).opened
  pub here : around ≡ near (step_at code k)
  pub behind : next ≡ (points_at code (k + 1)).opened
  pub crossing : slots ≡ slice_index_or code.crossings k []

-- the classes of arcs near the crossing of which none is open after it
abbrev pub closed_in : List ℕ → List ℕ → List ℕ → List ℕ
closed_in opened around classes = filter (is_none_in opened classes) (filter (is_least classes) around)

-- how many slots of a crossing have an arc
abbrev pub slot_count : List ℕ → ℕ → ℕ
slot_count slots x =
    (if nat_eq (arc_in slots 0) x then 1 else 0)
    + ((if nat_eq (arc_in slots 1) x then 1 else 0)
    + ((if nat_eq (arc_in slots 2) x then 1 else 0) + (if nat_eq (arc_in slots 3) x then 1 else 0)))

-- whether an arc is open or at the crossing, and whether it is open after it
abbrev pub is_near_by : List ℕ → List ℕ → ℕ → Bool
is_near_by opened slots x = list_any (nat_eq x) opened || nat_lt 0 (slot_count slots x)

abbrev pub is_next_by : List ℕ → List ℕ → ℕ → Bool
is_next_by opened slots x = nat_eq ((if list_any (nat_eq x) opened then 1 else 0) + slot_count slots x) 1
