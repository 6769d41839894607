-- What a list of slices joins: the darts in pairs and the number of loops, or the first fault. Darts are given by their places, and
-- crossings are numbered from 1 to a limit.
use Rattle.std.specs.Prelude.{ℕ, ◌+◌, ◌-◌, ◌*◌, List, [], ◌∷◌, length, map, nat_eq, nat_lt, slice_index, Bool, not, ◌&&◌, ◌||◌, Option, Some, None, Ok, Err, Result, if◌then◌else◌}
use Rattle.std.specs.List.{count_by, filter, flat_map, list_any, range_with_len}
use Rattle.std.specs.Option.{option_or}
use Rattle.std.specs.Result.{IsOk}
use Rattle.kh_types.specs.Classes.{classes_of, is_least}
use Rattle.kh_types.specs.Darts.{dart_at}
use Rattle.kh_types.specs.declared.dart.Dart.{Dart}
use Rattle.kh_types.specs.declared.limits.TheConstants.{CROSSINGS}
use Rattle.morse_drawing.specs.declared.fault.SliceFault.{SliceFault}
use Rattle.morse_drawing.specs.declared.fault.SliceFault.TheVariants.{Ends, Label, Loops, Place}
use Rattle.morse_drawing.specs.declared.limits.TheConstants.{CAP_STRANDS, JOINED_LOOPS}
use Rattle.morse_drawing.specs.Sketches.{Sketch, is_met, no_sketch, segment_met, sketched, sketch_of}
use Rattle.morse_drawing.specs.declared.slice.Slice.{Slice}
use Rattle.morse_drawing.specs.declared.slice.Slice.TheVariants.{Cap, Cup, Cross}

-- the classes of the segments that are joined
abbrev pub segment_classes : Sketch → List ℕ
segment_classes r = classes_of r.next r.joins

-- the class of the segment that a dart meets
abbrev pub class_met : Sketch → ℕ → ℕ
class_met r dart = slice_index (segment_classes r) (segment_met r.met dart)

-- two darts, the lesser first, meet one class of segments
abbrev pub are_ends : Sketch → ℕ → ℕ → Bool
are_ends r dart other = nat_lt dart other && (is_met r.met dart && (is_met r.met other && nat_eq (class_met r dart) (class_met r other)))

-- a dart with another
abbrev pub pair_with : ℕ → ℕ → ℕ × ℕ
pair_with dart other = (dart, other)

-- the pairs with a first dart
abbrev pub pairs_from : ℕ → Sketch → ℕ → List (ℕ × ℕ)
pairs_from limit r dart = map (pair_with dart) (filter (are_ends r dart) (range_with_len 0 (4 * limit)))

-- the pairs of darts that meet one class of segments, by their first darts
abbrev pub pairs_of : ℕ → Sketch → List (ℕ × ℕ)
pairs_of limit r = flat_map (pairs_from limit r) (range_with_len 0 (4 * limit))

-- a dart meets a class of segments
abbrev pub meets_class : Sketch → ℕ → ℕ → Bool
meets_class r class dart = is_met r.met dart && nat_eq (class_met r dart) class

-- a class of segments is a loop where no dart meets it and it has no end in the row; it is named by its least segment
abbrev pub is_loop : ℕ → Sketch → ℕ → Bool
is_loop limit r segment = is_least (segment_classes r) segment
    && (not (list_any (meets_class r segment) (range_with_len 0 (4 * limit)))
    && not (list_any (λ end. nat_eq (slice_index (segment_classes r) end) segment) r.row))

-- how many classes are loops
abbrev pub loop_count : ℕ → Sketch → ℕ
loop_count limit r = count_by (is_loop limit r) (range_with_len 0 r.next)

-- a fault, where it holds
abbrev pub fault_where : Bool → SliceFault → Option SliceFault
fault_where holds fault = if holds then Some fault else None

-- a number is outside 1 to a last
abbrev pub is_outside : ℕ → ℕ → Bool
is_outside last number = nat_lt number 1 || nat_lt last number

-- what is wrong with a slice, at its number, behind others: its place first, then its label, or one loop too many
abbrev pub slice_fault : ℕ → Sketch → ℕ → Slice → Option SliceFault
slice_fault limit r number (Cap at) = fault_where (is_outside (length r.row + 1) at || nat_lt CAP_STRANDS (length r.row)) (Place number)
slice_fault limit r number (Cup at) =
    option_or (fault_where (is_outside (length r.row - 1) at) (Place number))
    (fault_where (nat_lt JOINED_LOOPS (loop_count limit (sketched r (Cup at)))) (Loops number))
slice_fault limit r number (Cross at crossing slot) =
    option_or (fault_where (is_outside (length r.row - 1) at) (Place number))
    (fault_where (is_outside limit crossing || (is_met r.met (4 * (crossing - 1)) || nat_lt 3 slot)) (Label number))

-- the first slice with a fault, of slices read after others; their numbers begin with one
abbrev pub first_slice_fault : ℕ → Sketch → ℕ → List Slice → Option SliceFault
first_slice_fault limit r number [] = None
first_slice_fault limit r number (slice ∷ slices) =
    option_or (slice_fault limit r number slice) (first_slice_fault limit (sketched r slice) (number + 1) slices)

-- strands are left
abbrev pub ends_fault : Sketch → Option SliceFault
ends_fault r = fault_where (nat_lt 0 (length r.row)) (Ends (length r.row))

-- pairs of darts, and a number of loops
pub record JoinedDarts : Type 0 where
  pub pairs : List (List Dart)
  pub loops : ℕ

-- the two darts of a pair of places
abbrev pub ends_of : ℕ × ℕ → List Dart
ends_of pair = dart_at pair.0 ∷ dart_at pair.1 ∷ []

-- what segments join, where crossings are numbered to a limit
abbrev pub joined_in : ℕ → Sketch → JoinedDarts
joined_in limit r = record { pairs = map ends_of (pairs_of limit r); loops = loop_count limit r }

-- this, unless there is a fault
abbrev pub answer_by : Option SliceFault → JoinedDarts → Result JoinedDarts SliceFault
answer_by None joins = Ok joins
answer_by (Some fault) joins = Err fault

-- what slices join, whose crossings are numbered to a limit
abbrev pub joined_within : ℕ → List Slice → Result JoinedDarts SliceFault
joined_within limit slices =
    answer_by (option_or (first_slice_fault limit no_sketch 1 slices) (ends_fault (sketch_of slices))) (joined_in limit (sketch_of slices))

-- what slices join, whose crossings are numbered to the most that a diagram has
abbrev pub joined_by : List Slice → Result JoinedDarts SliceFault
joined_by slices = joined_within CROSSINGS slices

-- a list of slices in which nothing is wrong
abbrev pub IsFaultless : List Slice → Type 0
IsFaultless slices = IsOk (joined_by slices)

-- a dart comes before its partner
abbrev pub is_first : (ℕ → ℕ) → ℕ → Bool
is_first partner dart = nat_lt dart (partner dart)

-- the pair of a dart and its partner
abbrev pub arc_from : (ℕ → ℕ) → ℕ → ℕ × ℕ
arc_from partner dart = (dart, partner dart)

-- the arcs of a partner function of the darts of n crossings, each as its two darts, the lesser first, by their first darts
abbrev pub arc_pairs : ℕ → (ℕ → ℕ) → List (ℕ × ℕ)
arc_pairs n partner = map (arc_from partner) (filter (is_first partner) (range_with_len 0 (4 * n)))
