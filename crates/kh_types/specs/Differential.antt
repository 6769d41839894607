-- The differential of the cube, coefficient by coefficient.
use Rattle.std.specs.Prelude.{ℕ, ◌+◌, ◌-◌, ◌%◌, ◌^◌, ℤ, pos, ◌+ℤ◌, List, [], ◌∷◌, map, nat_eq, Bool, ◌&&◌, ◌||◌, if◌then◌else◌}
use Rattle.std.specs.List.{filter, list_all, list_any, sum_by, range_with_len, position_or_len}
use Rattle.std.specs.Str.{bytes_eq}
use Rattle.kh_types.specs.Code.{Code, arc_in, place_of, slots_of, crossing_numbers}
use Rattle.kh_types.specs.Bits.{bit, ones}
use Rattle.kh_types.specs.Circles.{circles_of, circle_of, circle_names}
use Rattle.kh_types.specs.Generators.{Generator, generators_at}

-- the label of the circle of an arc or a loop: 0 for v+, 1 for v-
abbrev pub label_of : Code → Generator → ℕ → ℕ
label_of code generator arc =
    let circle = circle_of (circles_of code generator.state) arc in
    bit generator.label (position_or_len (nat_eq circle) (circle_names code generator.state))

-- a circle is touched by a crossing where the arc at one of the slots 0 to 3 is on it
abbrev pub is_touched : Code → ℕ → ℕ → ℕ → Bool
is_touched code state crossing circle =
    list_any (λ slot. nat_eq (circle_of (circles_of code state) (arc_in (slots_of code.crossings crossing) slot)) circle)
    (range_with_len 0 4)

-- the touched circles, by their least arcs, ascending
abbrev pub touched : Code → ℕ → ℕ → List ℕ
touched code state crossing = filter (is_touched code state crossing) (circle_names code state)

-- the rows of the merge table: v+ v+ gives v+, and v+ v- and v- v+ give v- (Bar-Natan 2002, section 3)
abbrev pub is_merge : List ℕ → List ℕ → Bool
is_merge before after =
    (bytes_eq before (0 ∷ 0 ∷ []) && bytes_eq after (0 ∷ []))
    || ((bytes_eq before (0 ∷ 1 ∷ []) && bytes_eq after (1 ∷ []))
    || (bytes_eq before (1 ∷ 0 ∷ []) && bytes_eq after (1 ∷ [])))

-- the rows of the split table: v+ gives v+ v- and v- v+, and v- gives v- v- (Bar-Natan 2002, section 3)
abbrev pub is_split : List ℕ → List ℕ → Bool
is_split before after =
    (bytes_eq before (0 ∷ []) && bytes_eq after (0 ∷ 1 ∷ []))
    || ((bytes_eq before (0 ∷ []) && bytes_eq after (1 ∷ 0 ∷ []))
    || (bytes_eq before (1 ∷ []) && bytes_eq after (1 ∷ 1 ∷ [])))

-- the state changes at this crossing alone, from its 0-smoothing to its 1-smoothing
abbrev pub is_edge : Generator → Generator → ℕ → Bool
is_edge tail head crossing =
    nat_eq (bit tail.state (place_of crossing)) 0 && nat_eq head.state (tail.state + 2 ^ place_of crossing)

-- every circle that is not touched has the same label in both
abbrev pub keeps_labels : Code → Generator → Generator → ℕ → Bool
keeps_labels code tail head crossing =
    list_all (λ circle. is_touched code tail.state crossing circle || nat_eq (label_of code tail circle) (label_of code head circle))
    (circle_names code tail.state)

-- the labels of the touched circles are a row of the merge table or of the split table
abbrev pub changes_labels : Code → Generator → Generator → ℕ → Bool
changes_labels code tail head crossing =
    let before = map (label_of code tail) (touched code tail.state crossing) in
    let after = map (label_of code head) (touched code head.state crossing) in
    is_merge before after || is_split before after

-- modulo p, -1 to the number of crossings listed before this one that have their 1-smoothing (Bar-Natan 2002, section 3)
abbrev pub edge_sign : ℕ → ℕ → ℕ → ℕ
edge_sign p state crossing = if nat_eq (ones (place_of crossing) state % 2) 0 then 1 else p - 1

-- the coefficient along the edge at one crossing
abbrev pub coefficient_at : ℕ → Code → Generator → Generator → ℕ → ℕ
coefficient_at p code tail head crossing =
    if is_edge tail head crossing && (keeps_labels code tail head crossing && changes_labels code tail head crossing)
    then edge_sign p tail.state crossing else 0

-- the edge coefficient from one generator to another, modulo p: along the one edge that leads from state to state, if any does
abbrev pub coefficient : ℕ → Code → Generator → Generator → ℕ
coefficient p code tail head = sum_by (coefficient_at p code tail head) (crossing_numbers code.crossings)

-- the differential from degree i at j: a row for each generator of degree i + 1, with an entry for each generator of degree i
abbrev pub differential : ℕ → Code → ℤ → ℤ → List (List ℕ)
differential p code i j =
    map (λ head. map (λ tail. coefficient p code tail head) (generators_at code i j)) (generators_at code (i +ℤ pos 1) j)
